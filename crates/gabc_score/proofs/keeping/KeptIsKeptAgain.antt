-- What a stage reports of a syllable that it reads is kept again, where it is read by itself.
use Rattle.std.proofs.Common.{◌≡◌, ◌<◌, ◌≤◌, ◌^◌, ℕ, Bool, true, false, List, [], ◌∷◌, ◌++◌, length, drop, Option, is_some, encode_utf8_all, refl, sym, ap, ◌∙◌, subst, arith, append-nil}
use Rattle.std.proofs.lemmas.Str.{encodes_same, length-le-encodes}
use Rattle.gabc_text.specs.witness.EventsLeft as fresh_events
use Rattle.gabc_places.specs.Place.{place_past}
use Rattle.gabc_places.specs.StageLaw.{concat_of}
use Rattle.gabc_places.specs.declared.place.Place.{Place}
use Rattle.gabc_text.specs.witness.Keeps as text
use Rattle.gabc_score.specs.declared.body_stage.BodyPart.{BodyPart}
use Rattle.gabc_score.specs.declared.body_tells.Openers.{Openers}
use Rattle.gabc_body.specs.declared.events.BodyEvent.{BodyEvent}
use Rattle.gabc_body.specs.Body.{cut_of, events_onto}
use Rattle.gabc_body.specs.Events.{events_at_end}
use Rattle.gabc_score.specs.witness.EmittedAgain.{IsEmittedAgain, emitted, is_other, lists, notes_at, placed}
use Rattle.gabc_score.specs.ReadAgain.{ReportsReading}
use Rattle.gabc_body.specs.ScoreEvents.{first_place}
use Rattle.gabc_score.specs.ScoreReports.{is_in_comment, is_in_front, openers_of}
use Rattle.gabc_body.specs.Syllable.{all_syllables, kept_of}
use Rattle.gabc_score.specs.machine.PartKeeps.{KeptParts, in_text, joined, PartKeeps}
use Rattle.gabc_score.specs.machine.ReadAgain.{BeginsComment, Reads}
use Rattle.gabc_score.specs.witness.BodyStage.{part_with}
use Rattle.gabc_score.specs.witness.ReadAgain.{CanBeReadAgain}
use Rattle.gabc_score.specs.witness.ScoreStage.{ScoreStageState}
use Rattle.gabc_score.proofs.keeping.EndsOfParts.{cut_is, inner_by, notes_by}
use Rattle.gabc_score.proofs.keeping.ReadByDefinition.{FromBeginning, begun_text, emitted_plain, emitted_with, end_is, notes_all, since_all}
use Rattle.gabc_score.proofs.keeping.PartsTakeCharacters.{TakesOne, takes_one}
use Rattle.gabc_score.proofs.keeping.ReadByItself.{AddsAfter, ReadsOn, StandsAfter, adds_after, gathered_of, reads_on}
use Rattle.gabc_score.specs.machine.StageLaws.{StageLaws}
use Rattle.gabc_score.proofs.resuming.MachinesPassAgain.{begins}
use Rattle.gabc_score.proofs.resuming.PartsAreOne.{parts_are_one}
use Rattle.gabc_score.proofs.resuming.ScoresAgree.{reads_in_body}

module _ (laws : StageLaws) (reads : FromBeginning) (lines macros : ℕ) where
  -- where a text begins nothing is kept
  pub begins_text : StandsAfter lines macros first_place begun_text [] []
  unfolding text.said_of fresh_events.events_left
  begins_text = record {
    reading = record { parts = in_text []; keeps = laws.steps.text_fresh first_place; said = record { builder = refl; eu = refl; nlba = refl }; kept = refl; from = refl; uncut = refl };
    kept = refl;
    none = refl;
    outside = refl;
    front = refl;
    stands = refl;
    place = record { line = omega arith; column = omega arith; in_64_bits = omega arith };
    openers = record { notes = tt; inner = tt; in_order = tt };
  }

  module _ (t : List ℕ) (told : BodyPart) (p : KeptParts) (keeps : PartKeeps lines macros told p) (front : is_in_front told ≡ false) (is : joined p ≡ t) (few : length (encode_utf8_all t) < 2 ^ 63) where
    pub r : ReadsOn laws.steps lines macros first_place begun_text [] [] t
    r = grind (arith, reads_on, begins_text, length-le-encodes)

    pub same : r.stands.reading.parts ≡ p
    same = grind (arith, parts_are_one, encodes_same)

    pub keeps_same : PartKeeps lines macros r.read.after p
    keeps_same = subst (PartKeeps lines macros r.read.after) same r.stands.reading.keeps

    -- ---- what is kept

    kept_before : (before : List BodyEvent) (bytes : List ℕ) → (gathered_of before).builder.kept ≡ bytes → all_syllables before ≡ [] → kept_of before ≡ bytes
    kept_before before bytes e none = ap kept_of (sym (since_all before none)) ∙ e

    one : TakesOne lines macros r.read.after (record { c = 37; place = place_past first_place t })
    one = takes_one laws.steps lines macros r.read.after r.stands.reading.parts r.stands.reading.keeps r.stands.front (record { c = 37; place = place_past first_place t })

    adds : is_in_comment told ≡ true → AddsAfter laws.steps lines macros (events_onto (concat_of r.read.lists) []) one.now []
    unfolding one
    adds open_comment =
        let reads : Reads r.read.after r.stands.reading.parts (record { c = 37; place = place_past first_place t }) [] true one.after one.now =
        one.again.comment r.stands.reading.parts r.stands.reading.keeps r.stands.outside refl
        (subst (BeginsComment lines) (sym same) (begins laws.again laws.ends lines macros told p keeps front open_comment)) in
        adds_after laws.steps lines macros (events_onto (concat_of r.read.lists) []) one.now []
        (reads.adds (gathered_of (events_onto (concat_of r.read.lists) [])) r.stands.reading.kept r.stands.reading.from (let e = ap length r.stands.kept in omega (arith, e, few)))

    kept_with : is_in_comment told ≡ true → kept_of (emitted lines macros (t ++ 37 ∷ [])) ≡ encode_utf8_all t
    kept_with e =
        let a = adds e in
        ap kept_of (emitted_with reads laws.steps lines macros t few r.read one)
        ∙ kept_before (events_onto one.now (events_onto (concat_of r.read.lists) [])) (encode_utf8_all t) (a.kept ∙ append-nil (gathered_of (events_onto (concat_of r.read.lists) [])).builder.kept ∙ r.stands.kept) (a.none ∙ r.stands.none)

    -- ---- what is open

    pub notes_at_all : notes_at (placed lines macros t) (lists lines macros t) ≡ (openers_of r.read.after).notes
    notes_at_all = notes_all reads laws.steps lines macros t few r.read ∙ r.notes

    pub inside_is : is_other (cut_of (concat_of (drop (length t) (lists lines macros t)))) (notes_at (placed lines macros t) (lists lines macros t)) ≡ is_some (openers_of r.read.after).inner
    inside_is =
        ap (λ (es : List BodyEvent). is_other (cut_of es) (notes_at (placed lines macros t) (lists lines macros t))) (end_is reads laws.steps lines macros t few r.read)
        ∙ ap (is_other (cut_of (events_at_end (part_with r.read.after []) ++ []))) notes_at_all
        ∙ cut_is laws.ends lines macros r.read.after p keeps_same r.stands.front (place_past first_place t) r.stands.openers

    pub kept_again : IsEmittedAgain lines macros t (openers_of told) (is_in_comment told)
    kept_again = record {
      kept = ap kept_of (emitted_plain reads laws.steps lines macros t few r.read) ∙ kept_before (events_onto (concat_of r.read.lists) []) (encode_utf8_all t) r.stands.kept r.stands.none;
      none = ap all_syllables (emitted_plain reads laws.steps lines macros t few r.read) ∙ r.stands.none;
      percent = kept_with;
      notes = notes_by laws.ends lines macros told p keeps front ∙ sym (notes_by laws.ends lines macros r.read.after p keeps_same r.stands.front) ∙ ap (λ (o : Option Place). is_some o) (sym notes_at_all);
      inner = inner_by laws.ends lines macros told p keeps front ∙ sym (inner_by laws.ends lines macros r.read.after p keeps_same r.stands.front) ∙ sym inside_is;
    }

module _ (s : ScoreStageState) (t : List ℕ) (openers : Openers) (comment : Bool) (can : CanBeReadAgain s) (tells : ReportsReading s (encode_utf8_all t) openers comment) where
  kept_text : s.held.gathered.builder.kept ≡ encode_utf8_all t
  kept_text = sym (reads_in_body s.part s.held.gathered.builder.kept can.body) ∙ tells.reading

  pub told_is_short : length (encode_utf8_all t) ≤ s.limits.syllable
  told_is_short = let same = ap length kept_text in let short = can.told.short in omega (arith, same, short)

  pub told_is_kept_again : StageLaws → FromBeginning → IsEmittedAgain s.body.nabc_lines s.body.macros t openers comment
  told_is_kept_again laws reads =
      subst (λ (o : Openers). IsEmittedAgain s.body.nabc_lines s.body.macros t o comment) tells.openers_are
      (subst (IsEmittedAgain s.body.nabc_lines s.body.macros t (openers_of s.body.part)) tells.comment_is
      (kept_again laws reads s.body.nabc_lines s.body.macros t s.body.part can.told.parts can.told.keeps tells.front
      (encodes_same (joined can.told.parts) t (sym can.told.is ∙ kept_text)) (let short = told_is_short in let most = s.limits.in_range.syllable_most in omega (arith, short, most))))
