-- What a snippet does with a character, be it of GABC or of NABC: it goes on, or it ends.
use Rattle.std.proofs.Math.Bool.{or-false}
use Rattle.std.proofs.lemmas.Bool.{not-true, and_parts, eqb-true, true≢false, cases_Bool}
use Rattle.std.proofs.Common.{◌≡◌, ◌≢◌, ◌==◌, ◌&&◌, ◌||◌, ◌⊎◌, inl, inr, not, ℕ, zero, suc, ◌-◌, ◌^◌, min, nat_lt, Bool, true, false, List, [], ◌∷◌, ◌++◌, Option, Some, None, refl, sym, ap, subst, ◌∙◌, append-nil, if◌then◌else◌, arith}
use Rattle.std.proofs.lemmas.List.{append_cancel_left}
use Rattle.std.specs.List.{list_any}
use Rattle.gabc_places.specs.declared.place.Char.{Char}
use Rattle.gabc_places.specs.declared.place.Place.{Place}
use Rattle.gabc_patterns.specs.Derivative.{is_viable}
use Rattle.gabc_patterns.specs.Function.{trim}
use Rattle.gabc_patterns.specs.Kept.{Trims}
use Rattle.gabc_patterns.specs.Pattern.{is_in}
use Rattle.gabc_patterns.proofs.FunctionsMeetRelations.{trim_trims}
use Rattle.gabc_notes.specs.Events.{end_by_mark, in_raw}
use Rattle.gabc_notes.specs.SnippetRead.{kept_of, ends_of}
use Rattle.gabc_notes.specs.StageReports as tells
use Rattle.gabc_notes.specs.Table.{gabc}
use Rattle.gabc_notes.specs.witness.Keeps as notes
use Rattle.gabc_notes.specs.declared.stage.NoteEnd.{NoteEnd}
use Rattle.gabc_notes.specs.declared.stage.NoteEnd.TheVariants as note_end
use Rattle.gabc_notes.specs.declared.stage.NoteEvent.{NoteEvent}
use Rattle.gabc_notes.specs.declared.stage.NoteEvent.TheVariants as note
use Rattle.gabc_notes.specs.declared.stage.NoteStage.{NoteStage}
use Rattle.gabc_nabc.specs.Table.{nabc as nabc_table}
use Rattle.gabc_nabc.specs.witness.DescriptorMachine.{comment_in}
use Rattle.gabc_nabc.specs.witness.Keeps as nabc
use Rattle.gabc_nabc.specs.declared.stage.NabcStage.{NabcStage}
use Rattle.gabc_score.specs.declared.body_stage.BodyPart.{BodyPart}
use Rattle.gabc_score.specs.declared.body_stage.BodyPart.TheVariants as part
use Rattle.gabc_body.specs.Events.{is_close, is_next}
use Rattle.gabc_body.specs.Holding.{IsSnippetOf}
use Rattle.gabc_score.specs.ScoreReports.{IsAt, is_in_comment, is_in_front, openers_of}
use Rattle.gabc_score.specs.machine.PartKeeps.{KeptParts, in_text, in_notes, IsEndedOn, AreAfter, PartKeeps}
use Rattle.gabc_score.specs.machine.PartSteps.{SnippetSteps}
use Rattle.gabc_score.specs.machine.PartSteps as step
use Rattle.gabc_body.proofs.texts_of_body.SeamsOfCharacters.{size, size_is_sum}
use Rattle.gabc_body.proofs.emitted.EndsOfSnippets.{is_close_end, any_close, none_close}

-- ---- how a snippet ended

abbrev is_next_end : NoteEnd → Bool
is_next_end note_end.Next = true
is_next_end how = false

any_next : (es : List NoteEvent) → list_any is_next es ≡ list_any (λ (e : NoteEnd × ℕ). is_next_end e.0) (ends_of es)
any_next [] = refl
any_next (note.Ended note_end.Next n ∷ es) = refl
any_next (_ ∷ es) = any_next es

-- none, or one by the mark at which the snippet ended
module _ (es : List NoteEvent) (c n : ℕ) where
  pub none_next : ends_of es ≡ [] → list_any is_next es ≡ false
  none_next e = any_next es ∙ ap (list_any (λ (e : NoteEnd × ℕ). is_next_end e.0)) e

  next_is : ends_of es ≡ (end_by_mark c, n) ∷ [] → list_any is_next es ≡ (c == 124)
  next_is e = any_next es ∙ ap (list_any (λ (e : NoteEnd × ℕ). is_next_end e.0)) e ∙ grind arith

  close_is : ends_of es ≡ (end_by_mark c, n) ∷ [] → list_any is_close es ≡ not (c == 124)
  close_is e = any_close es ∙ ap (list_any (λ (e : NoteEnd × ℕ). is_close_end e.0)) e ∙ grind arith

  pub one_ends : ends_of es ≡ (end_by_mark c, n) ∷ [] → list_any is_next es ≡ false → list_any is_close es ≡ false → ⊥
  one_ends e f g = true≢false (ap not (sym f ∙ next_is e) ∙ sym (close_is e) ∙ g)

  pub next_ends : ends_of es ≡ (end_by_mark c, n) ∷ [] → list_any is_next es ≡ true → ends_of es ≡ (note_end.Next, n) ∷ []
  next_ends e f = e ∙ ap (λ (b : Bool). (if b then note_end.Next else note_end.Close, n) ∷ []) (sym (next_is e) ∙ f)

  pub next_mark : ends_of es ≡ (end_by_mark c, n) ∷ [] → list_any is_next es ≡ true → c ≡ 124
  next_mark e f = eqb-true c 124 (sym (next_is e) ∙ f)

  pub not_next : ends_of es ≡ (end_by_mark c, n) ∷ [] → list_any is_close es ≡ true → (c == 124) ≡ false
  not_next e f = not-true (c == 124) (sym (close_is e) ∙ f)

  pub close_ends : ends_of es ≡ (end_by_mark c, n) ∷ [] → list_any is_close es ≡ true → ends_of es ≡ (note_end.Close, n) ∷ []
  close_ends e f = e ∙ ap (λ (b : Bool). (if b then note_end.Next else note_end.Close, n) ∷ []) (not_next e f)

  -- what ends at a `|` does not close
  pub next_alone : ends_of es ≡ (end_by_mark c, n) ∷ [] → list_any is_next es ≡ true → list_any is_close es ≡ false
  next_alone e f = close_is e ∙ ap not (sym (next_is e) ∙ f)

-- ---- it goes on, or ends

-- parts of a kept text of which a snippet of that line is read
pub record InSnippet (lines macros line : ℕ) (p : KeptParts) : Type 0 where
  pub t : List ℕ
  pub earlier : List (List ℕ)
  pub k : List ℕ
  pub is : p ≡ in_notes t earlier k
  pub after : AreAfter lines macros line t earlier

-- It goes on: the character is kept, or nothing. The bracket that is open was so before, or is the
-- character.
pub record Going (lines macros line : ℕ) (x : Char) (before after : BodyPart) (es : List NoteEvent) (p : KeptParts) : Type 0 where
  pub here : InSnippet lines macros line p
  pub no_end : ends_of es ≡ []
  pub kept : (kept_of es ≡ []) ⊎ (kept_of es ≡ x.c ∷ [])
  pub keeps : PartKeeps lines macros after (in_notes here.t here.earlier (here.k ++ kept_of es))
  pub none : is_in_comment after ≡ true → kept_of es ≡ []
  pub line_ends : x.c ≡ 10 → is_in_comment after ≡ false
  pub opener : ((openers_of after).inner ≡ None) ⊎ (((openers_of after).inner ≡ (openers_of before).inner) ⊎ ((openers_of after).inner ≡ Some x.place))

-- It ends at its mark: what was kept is cut to a snippet that is whole.
pub record Ending (lines macros line : ℕ) (x : Char) (es : List NoteEvent) (p : KeptParts) : Type 0 where
  pub here : InSnippet lines macros line p
  pub s : List ℕ
  pub rest : List ℕ
  pub cut : here.k ≡ s ++ rest
  pub whole : IsSnippetOf line s
  pub ended : x.c ≡ 124 → IsEndedOn lines macros line s
  pub none_kept : kept_of es ≡ []
  pub end : ends_of es ≡ (end_by_mark x.c, min (size s) (2 ^ 64 - 1)) ∷ []
  pub mark : (x.c ≡ 124) ⊎ (x.c ≡ 41)

-- a line of NABC is not the first
pub on_nabc : (P : ℕ → Type 0) (line : ℕ) → line ≢ 0 → ((l : ℕ) → P (suc l)) → P line
on_nabc P zero some each = absurd (some refl)
on_nabc P (suc l) some each = each l

nothing_of : (k ds : List ℕ) → k ++ ds ≡ k → ds ≡ []
nothing_of k ds e = append_cancel_left k ds [] (e ∙ sym (append-nil k))

-- the character or nothing
one_of : (b : Bool) (k ds : List ℕ) (c : ℕ) → k ++ ds ≡ (if b then k ++ c ∷ [] else k) → (ds ≡ []) ⊎ (ds ≡ c ∷ [])
one_of true k ds c e = inr (append_cancel_left k ds (c ∷ []) e)
one_of false k ds c e = inl (nothing_of k ds e)

module _ (lines macros : ℕ) (x : Char) where
  -- ---- a snippet of GABC

  module _ (opened : Place) (s t : NoteStage) (es : List NoteEvent) (h : notes.Steps s x es t) (u : List ℕ) (earlier : List (List ℕ)) (k : List ℕ) (keeps : PartKeeps lines macros (part.Notes opened s) (in_notes u earlier k)) where
    abbrev split : Bool
    split = nat_lt 0 lines

    after : (b : Bool) (before : Option Place) → (notes.opener_after b before x.place ≡ None) ⊎ ((notes.opener_after b before x.place ≡ before) ⊎ (notes.opener_after b before x.place ≡ Some x.place))
    after false before = inl refl
    after true (Some q) = inr (inl refl)
    after true None = inr (inr refl)

    gabc_goes : notes.is_end_after split k (tells.comment_of s) x.c ≡ false → Going lines macros 0 x (part.Notes opened s) (part.Notes opened t) es (in_notes u earlier k)
    gabc_goes e =
        let g = h.keeps.goes split macros k keeps.1 e in
        record {
          here = record { t = u; earlier = earlier; k = k; is = refl; after = keeps.0 };
          no_end = g.no_end;
          kept = one_of (not (notes.is_comment_after k (tells.comment_of s) x.c) && is_viable gabc (k ++ x.c ∷ [])) k (kept_of es) x.c g.kept;
          keeps = (keeps.0, g.keeps);
          none = λ comment. nothing_of k (kept_of es) (g.kept ∙ ap (λ (b : Bool). if not b && is_viable gabc (k ++ x.c ∷ []) then k ++ x.c ∷ [] else k) (sym g.comment ∙ comment));
          line_ends = λ lf. g.comment ∙ ap (notes.is_comment_after k (tells.comment_of s)) lf;
          opener = subst (λ (o : Option Place). (o ≡ None) ⊎ ((o ≡ tells.opener_of s) ⊎ (o ≡ Some x.place))) (sym g.opener) (after (in_raw (k ++ kept_of es)) (tells.opener_of s));
        }

    -- a `|` ends it only if snippets are split
    splits : (b r : Bool) → x.c ≡ 124 → (b && (r && ((x.c == 41) || (split && (x.c == 124))))) ≡ true → split ≡ true
    splits b r c = grind (arith, and_parts)

    gabc_mark : (a r b s d : Bool) → (x.c == 41) ≡ b → (x.c == 124) ≡ d → (a && (r && (b || (s && d)))) ≡ true → (x.c ≡ 124) ⊎ (x.c ≡ 41)
    gabc_mark a r b s d f g e = grind (arith, eqb-true, and_parts)

    gabc_ends : notes.is_end_after split k (tells.comment_of s) x.c ≡ true → Ending lines macros 0 x es (in_notes u earlier k)
    gabc_ends over =
        let e = h.keeps.ends split macros k keeps.1 over in
        let cut : Trims gabc k (trim gabc k) = trim_trims gabc refl k in
        record {
          here = record { t = u; earlier = earlier; k = k; is = refl; after = keeps.0 };
          s = trim gabc k;
          rest = cut.rest;
          cut = cut.cut;
          whole = cut.longest.has;
          ended = λ bar. (splits _ _ bar over, record { stage = s; rest = cut.rest; keeps = subst (notes.Keeps split macros s) cut.cut keeps.1; whole = cut.longest.has });
          none_kept = e.none_kept;
          end = e.end ∙ ap (λ (n : ℕ). (end_by_mark x.c, min n (2 ^ 64 - 1)) ∷ []) (size_is_sum (trim gabc k));
          mark = gabc_mark _ _ (x.c == 41) split (x.c == 124) refl refl over;
        }

  -- ---- a snippet of NABC

  module _ (line : ℕ) (opened : Place) (s t : NabcStage) (es : List NoteEvent) (h : nabc.Steps s x es t) (u : List ℕ) (earlier : List (List ℕ)) (k : List ℕ) (keeps : PartKeeps lines macros (part.Nabc line opened s) (in_notes u earlier k)) where
    nabc_line : (comment : Bool) → comment_in comment 10 ≡ false
    nabc_line comment = grind arith

    nabc_kept : (a b : Bool) (ds : List ℕ) → k ++ ds ≡ (if a then (if b then k ++ x.c ∷ [] else k) else k) → (ds ≡ []) ⊎ (ds ≡ x.c ∷ [])
    nabc_kept a b ds e = grind (arith, one_of)

    -- in a comment nothing is kept
    none_in_comment : (m : Bool) → nabc.comment_of s ≡ m → comment_in m x.c ≡ true → nabc.kept_after k m x.c ≡ k
    none_in_comment m e i = grind (arith, eqb-true, or-false)

    nabc_goes : nabc.is_end_after (nabc.comment_of s) x.c ≡ false → Going lines macros line x (part.Nabc line opened s) (part.Nabc line opened t) es (in_notes u earlier k)
    nabc_goes e =
        let g = h.keeps.goes k keeps.1.1 e in
        record {
          here = record { t = u; earlier = earlier; k = k; is = refl; after = keeps.0 };
          no_end = g.no_end;
          kept = nabc_kept (not (nabc.comment_of s) && not (is_in x.c (37 ∷ 32 ∷ 9 ∷ 10 ∷ []))) (is_viable nabc_table (k ++ x.c ∷ [])) (kept_of es) g.kept;
          keeps = (keeps.0, (keeps.1.0, g.keeps));
          none = λ comment. nothing_of k (kept_of es) (g.kept ∙ none_in_comment (nabc.comment_of s) refl (sym g.comment ∙ comment));
          line_ends = λ lf. g.comment ∙ ap (comment_in (nabc.comment_of s)) lf ∙ nabc_line (nabc.comment_of s);
          opener = inl refl;
        }

    nabc_mark : (a b d : Bool) → (x.c == 41) ≡ b → (x.c == 124) ≡ d → (not a && (b || d)) ≡ true → (x.c ≡ 124) ⊎ (x.c ≡ 41)
    nabc_mark a b d f g e = grind (arith, eqb-true, and_parts)

    nabc_ends : nabc.is_end_after (nabc.comment_of s) x.c ≡ true → Ending lines macros line x es (in_notes u earlier k)
    nabc_ends over =
        let e = h.keeps.ends k keeps.1.1 over in
        let cut : Trims nabc_table k (trim nabc_table k) = trim_trims nabc_table refl k in
        record {
          here = record { t = u; earlier = earlier; k = k; is = refl; after = keeps.0 };
          s = trim nabc_table k;
          rest = cut.rest;
          cut = cut.cut;
          whole = on_nabc (λ (l : ℕ). IsSnippetOf l (trim nabc_table k)) line keeps.1.0 (λ l. cut.longest.has);
          ended = λ bar. on_nabc (λ (l : ℕ). IsEndedOn lines macros l (trim nabc_table k)) line keeps.1.0 (λ l. record { stage = s; rest = cut.rest; keeps = subst (nabc.Keeps s) cut.cut keeps.1.1; whole = cut.longest.has });
          none_kept = e.none_kept;
          end = e.end;
          mark = nabc_mark (nabc.comment_of s) (x.c == 41) (x.c == 124) refl refl over;
        }

-- ---- which of the two

pub takes : (lines macros : ℕ) {x : Char} {line : ℕ} {opened : Place} {before after : BodyPart} {es : List NoteEvent} → SnippetSteps x line opened before es after → (p : KeptParts) → PartKeeps lines macros before p
    → Going lines macros line x before after es p ⊎ Ending lines macros line x es p
takes lines macros (step.in_gabc h) (in_text k) keeps = absurd keeps
takes lines macros {x} (step.in_gabc {opened} {s} {t} {es} h) (in_notes u earlier k) keeps = elim (cases_Bool (notes.is_end_after (nat_lt 0 lines) k (tells.comment_of s) x.c)) [
  | inl e ↦ inr (gabc_ends lines macros x opened s t es h u earlier k keeps e)
  | inr e ↦ inl (gabc_goes lines macros x opened s t es h u earlier k keeps e)
]
takes lines macros (step.in_nabc h) (in_text k) keeps = absurd keeps
takes lines macros {x} (step.in_nabc {line} {opened} {s} {t} {es} h) (in_notes u earlier k) keeps = elim (cases_Bool (nabc.is_end_after (nabc.comment_of s) x.c)) [
  | inl e ↦ inr (nabc_ends lines macros x line opened s t es h u earlier k keeps e)
  | inr e ↦ inl (nabc_goes lines macros x line opened s t es h u earlier k keeps e)
]

module _ (lines macros : ℕ) {x : Char} {line : ℕ} {opened : Place} {before after : BodyPart} {es : List NoteEvent} (s : SnippetSteps x line opened before es after) (p : KeptParts) (keeps : PartKeeps lines macros before p) where
  pub going : list_any is_next es ≡ false → list_any is_close es ≡ false → Going lines macros line x before after es p
  going n c = elim (takes lines macros s p keeps) [ inl g ↦ g | inr e ↦ absurd (one_ends es x.c _ e.end n c) ]

  ending : (ends_of es ≡ [] → ⊥) → Ending lines macros line x es p
  ending some = elim (takes lines macros s p keeps) [ inl g ↦ absurd (some g.no_end) | inr e ↦ e ]

  pub ending_next : list_any is_next es ≡ true → Ending lines macros line x es p
  ending_next n = ending (λ none. true≢false (sym n ∙ none_next es x.c 0 none))

  pub ending_close : list_any is_close es ≡ true → Ending lines macros line x es p
  ending_close c = ending (λ none. true≢false (sym c ∙ none_close es none))

  -- it closes at a `)` alone
  pub close_mark : list_any is_close es ≡ true → x.c ≡ 41
  close_mark c = grind (arith, ending_close, not_next)

-- ---- the part

-- Before and after the character the notes are those of this `(`.
pub record StaysInNotes (opened : Place) (before after : BodyPart) : Type 0 where
  pub was : (openers_of before).notes ≡ Some opened
  pub is : (openers_of after).notes ≡ Some opened
  pub front : is_in_front after ≡ false
  pub stands : (at : Place) → IsAt at after

pub stays_in_notes : {x : Char} {line : ℕ} {opened : Place} {before after : BodyPart} {es : List NoteEvent} → SnippetSteps x line opened before es after → StaysInNotes opened before after
stays_in_notes h = grind arith

-- it keeps parts of which a snippet is read
pub in_snippet : (lines macros : ℕ) {x : Char} {line : ℕ} {opened : Place} {before after : BodyPart} {es : List NoteEvent} → SnippetSteps x line opened before es after → (P : KeptParts → Type 0)
    → ((u : List ℕ) (earlier : List (List ℕ)) (k : List ℕ) → AreAfter lines macros line u earlier → PartKeeps lines macros before (in_notes u earlier k) → P (in_notes u earlier k)) → (p : KeptParts) → PartKeeps lines macros before p → P p
in_snippet lines macros h P f p keeps = grind arith
