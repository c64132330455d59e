-- A machine in the body reads the next character of a kept text again: it passes no limit, and no
-- syllable becomes whole.
use Rattle.std.proofs.Common.{◌≡◌, ℕ, ◌≤◌, Bool, true, false, List, [], ◌∷◌, ◌++◌, length, Option, Some, None, is_some, encode_utf8, encode_utf8_all, refl, sym, ap, subst, ◌∙◌, arith, append-nil, append_assoc, length-append}
use Rattle.std.proofs.lemmas.Bool.{true≢false}
use Rattle.std.proofs.lemmas.Bool.Decides.{nat_tests}
use Rattle.std.proofs.lemmas.Str.{cons_from_encodes, encodes_same}
use Rattle.gabc_places.specs.declared.limits.Limits.{Limits}
use Rattle.gabc_places.specs.declared.place.Char.{Char}
use Rattle.gabc_places.specs.Place.{saturating_next_place}
use Rattle.gabc_score.specs.declared.body_stage.BodyPart.{BodyPart}
use Rattle.gabc_score.specs.declared.body_stage.BodyPart.TheVariants as part
use Rattle.gabc_body.specs.declared.events.BodyEvent.{BodyEvent}
use Rattle.gabc_score.specs.declared.score_machine.ScoreMachine.{ScoreMachine}
use Rattle.gabc_score.specs.ScoreReports.{is_in_comment, is_in_front}
use Rattle.gabc_body.specs.witness.BodyBuilder.{code_in, with_all}
use Rattle.gabc_body.specs.witness.Gatherer.{Gathered}
use Rattle.gabc_score.specs.machine.PartKeeps.{KeptParts, in_text, in_notes, joined, PartKeeps}
use Rattle.gabc_score.specs.machine.ReadsSilently.{GoesOn, ReadsSilently, StandsSo, left_with}
use Rattle.gabc_score.specs.machine.ReadAgain.{Adds, BeginsComment, BeginsIn, IsNext, IsReportedBy, Reads}
use Rattle.gabc_score.specs.declared.reading_again.SyllableRead.{SyllableRead}
use Rattle.gabc_score.specs.declared.reading_again.SyllableRead.TheVariants.{Open}
use Rattle.gabc_score.specs.machine.StageLaws.{Again, Ends}
use Rattle.gabc_score.specs.witness.BodyStage.{BodyStageState}
use Rattle.gabc_score.proofs.resuming.CharactersGathered.{counted}
use Rattle.gabc_score.proofs.resuming.NextIsKept.{next_is}
use Rattle.gabc_score.proofs.resuming.PartsAreOne.{parts_are_one}
use Rattle.gabc_score.proofs.score_events.EventsStayWithinBounds.{none_passed, limit_stays}
use Rattle.gabc_score.proofs.building.SnippetsTakeCharacters.{on_nabc}

-- ---- what passes no limit

-- no limit is passed with a kept text within its limit
no_code : (limits : Limits) (g h : Gathered) → code_in limits g ≡ None → h.made ≡ g.made → h.total ≡ g.total → h.over ≡ g.over → length h.builder.kept ≤ h.limit → code_in limits h ≡ None
no_code limits g h none made total over few = grind (arith, none_passed)

-- ---- the next character

past_prefix : (q cs rest : List ℕ) (c : ℕ) → encode_utf8_all cs ≡ encode_utf8_all q ++ (encode_utf8 c ++ rest) → (r : List ℕ) × (cs ≡ q ++ c ∷ r)
past_prefix [] cs rest c e = let k = cons_from_encodes cs rest c e in (k.0, k.1)
past_prefix (d ∷ q) cs rest c e =
    let k = cons_from_encodes cs (encode_utf8_all q ++ (encode_utf8 c ++ rest)) d (e ∙ append_assoc (encode_utf8 d) (encode_utf8_all q) (encode_utf8 c ++ rest)) in
    let h = past_prefix q k.0 rest c k.2 in
    (h.0, k.1 ∙ ap (λ (l : List ℕ). d ∷ l) h.1)

-- if a comment is reported, a `%` begins one
module _ (again : Again) (ends : Ends) (lines macros : ℕ) where
  pub begins : (told : BodyPart) (p : KeptParts) → PartKeeps lines macros told p → is_in_front told ≡ false → is_in_comment told ≡ true → BeginsComment lines p
  begins part.Comment p keeps front comment_open = absurd (true≢false front)
  begins (part.Text s) (in_text k) keeps front comment_open = let e = ends.text_comment s k keeps comment_open in (e, again.text_comments k e)
  begins (part.Text s) (in_notes u earlier k) keeps front comment_open = absurd keeps
  begins (part.Notes opened s) (in_notes u earlier k) keeps front comment_open = subst (λ (l : ℕ). BeginsIn l k) (sym keeps.0.line_is) (keeps.1.outside comment_open)
  begins (part.Nabc line opened s) (in_notes u earlier k) keeps front comment_open = subst (λ (l : ℕ). BeginsIn l k) (sym keeps.0.line_is) (on_nabc (λ (l : ℕ). BeginsIn l k) line keeps.1.0 (λ l. tt))
  begins _ (in_text k) keeps front comment_open = absurd keeps

-- ---- a machine that reads the next character again

open_left : (limits : Limits) (g : Gathered) (now : List BodyEvent) → code_in limits (with_all g now) ≡ None → (with_all g now).made ≡ g.made → left_with false limits g now ≡ Open
open_left limits g now none made = rw (none, made) (let same = length g.made in grind (arith, nat_tests, same))

module _ (again : Again) (ends : Ends) (m : ScoreMachine) (c : ℕ) (left : SyllableRead) (n : ScoreMachine) (p : ReadsSilently false m c left n) where
  abbrev x : Char
  x = record { c = c; place = m.next }

  abbrev IsTold : BodyPart → List ℕ → Type 0
  IsTold told kept = IsReportedBy m.body.nabc_lines m.body.macros m.limits.syllable told kept

  abbrev StillStands : List ℕ → Bool → Type 0
  StillStands kept comment = (left ≡ Open) × StandsSo n kept comment

  module _ (done : List ℕ) (h : StandsSo m done false) where
    abbrev old : Gathered
    old = m.pair.gathered

    abbrev parts : KeptParts
    parts = p.rests.reading.parts

    -- with this kept more no limit is passed
    stands_so : (more : List ℕ) (comment : Bool) → Reads m.body.part parts x more comment p.body.part p.now → length (done ++ encode_utf8_all more) ≤ m.limits.syllable → StillStands (done ++ encode_utf8_all more) comment
    stands_so more comment r few = (
      is_open,
      record {
        part = goes.stands.part;
        rests = goes.stands.rests;
        kept_is = ap (λ (k : Gathered). k.builder.kept) (goes.gathered (λ whole. absurd (cc (sym is_open ∙ whole)))) ∙ kept;
        comment_is = ap (λ (b : BodyStageState). is_in_comment b.part) goes.body_is ∙ r.comment_is;
        front = ap (λ (b : BodyStageState). is_in_front b.part) goes.body_is ∙ r.front;
      },
    )
      where
        adds : Adds old (with_all old p.now) more
        adds = r.adds old p.rests.reading.kept p.rests.reading.from (let few = p.rests.kept in let most = m.limits.in_range.syllable_most in omega (arith, few, most))

        counts : ((with_all old p.now).made ≡ old.made) × ((with_all old p.now).total ≡ old.total) × ((with_all old p.now).over ≡ old.over)
        counts = counted old p.now (let e = ap length adds.made in omega (arith, e))

        kept : (with_all old p.now).builder.kept ≡ done ++ encode_utf8_all more
        kept = adds.kept ∙ ap (λ (k : List ℕ). k ++ encode_utf8_all more) h.kept_is

        is_open : left ≡ Open
        is_open =
            p.left_is
            ∙ open_left m.limits old p.now (no_code m.limits old (with_all old p.now) p.rests.code adds.made counts.1 counts.2
            (let e = ap length kept in let l = limit_stays old p.now in let was = p.rests.rests.limit in omega (arith, e, l, was, few))) adds.made

        goes : GoesOn m (saturating_next_place m.next c) p.now p.body left n
        goes = p.goes (λ given_up. absurd (cc (sym is_open ∙ given_up)))

    -- the next character of a kept text
    pub reads_next : (told : BodyPart) (kept rest : List ℕ) → IsTold told kept → kept ≡ done ++ (encode_utf8 c ++ rest) → StillStands (done ++ encode_utf8 c) false
    reads_next told kept rest k is = subst (λ (l : List ℕ). StillStands (done ++ l) false) (append-nil (encode_utf8 c)) (stands_so (c ∷ []) false (p.again.next parts p.rests.reading.keeps h.comment_is next) few)
      where
        past : (r : List ℕ) × (joined k.parts ≡ joined parts ++ c ∷ r)
        past = past_prefix (joined parts) (joined k.parts) rest c (sym k.is ∙ is ∙ ap (λ (l : List ℕ). l ++ (encode_utf8 c ++ rest)) (sym h.kept_is ∙ p.rests.reading.kept))

        next : IsNext m.body.nabc_lines parts c
        next = next_is again m.body.nabc_lines m.body.macros m.body.part told parts k.parts c past.0 p.rests.reading.keeps k.keeps (sym past.1)

        few : length (done ++ encode_utf8_all (c ∷ [])) ≤ m.limits.syllable
        few =
            let all = ap length is ∙ length-append done (encode_utf8 c ++ rest) in
            let char = length-append (encode_utf8 c) [] in
            omega (arith, all, length-append (encode_utf8 c) rest, length-append done (encode_utf8_all (c ∷ [])), char, k.short)

    -- the `%` of a comment after all of it
    pub reads_percent : (told : BodyPart) → IsTold told done → is_in_front told ≡ false → is_in_comment told ≡ true → c ≡ 37 → StillStands done true
    reads_percent told k front comment_open percent =
        subst (λ (l : List ℕ). StillStands l true) (append-nil done)
        (stands_so [] true
        (p.again.comment parts p.rests.reading.keeps h.comment_is percent (subst (BeginsComment m.body.nabc_lines) (sym same) (begins again ends m.body.nabc_lines m.body.macros told k.parts k.keeps front comment_open)))
        (let e = ap length (append-nil done) in let short = k.short in omega (arith, e, short)))
      where
        same : parts ≡ k.parts
        same =
            parts_are_one again m.body.nabc_lines m.body.macros m.body.part told parts k.parts p.rests.reading.keeps k.keeps
            (encodes_same (joined parts) (joined k.parts) (sym p.rests.reading.kept ∙ h.kept_is ∙ k.is))

-- ---- what is none

pub none_is : {X : Type 0} (o : Option X) → is_some o ≡ false → o ≡ None
none_is None e = refl
none_is (Some x) e = absurd (true≢false e)
