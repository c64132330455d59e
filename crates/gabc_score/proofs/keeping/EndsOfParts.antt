-- What is open in a part of a body follows from the kept text, and from the place at which the end
-- cuts it.
use Rattle.std.proofs.Common.{◌≡◌, ◌==◌, ◌&&◌, ◌+◌, not, ℕ, Bool, true, false, if◌then◌else◌, List, [], ◌∷◌, ◌++◌, length, Option, Some, None, is_some, refl, sym, ap, ◌∙◌, arith, append-nil}
use Rattle.std.proofs.lemmas.Bool.{false≢true}
use Rattle.gabc_places.proofs.NumbersByTests.{same_eqb}
use Rattle.gabc_places.specs.StageLaw.{concat_of}
use Rattle.gabc_places.specs.declared.place.Place.{Place}
use Rattle.gabc_text.specs.StageReports as text_tells
use Rattle.gabc_text.specs.declared.text_event.TextEvent.{TextEvent}
use Rattle.gabc_text.specs.declared.text_event.TextEvent.TheVariants as text_out
use Rattle.gabc_text.specs.declared.text_event.TextEnd.TheVariants as text_end
use Rattle.gabc_text.specs.witness.Keeps as text
use Rattle.gabc_notes.specs.Events.{in_raw}
use Rattle.gabc_score.specs.declared.body_stage.BodyPart.{BodyPart}
use Rattle.gabc_score.specs.declared.body_stage.BodyPart.TheVariants as part
use Rattle.gabc_body.specs.Body.{cut_of}
use Rattle.gabc_body.specs.Events.{events_at_end, first_list}
use Rattle.gabc_score.specs.witness.EmittedAgain.{is_other}
use Rattle.gabc_score.specs.ScoreReports.{is_in_front, openers_of}
use Rattle.gabc_score.specs.ReportedWithin.{AreOpenersBefore}
use Rattle.gabc_score.specs.machine.PartKeeps.{KeptParts, in_text, in_notes, line_after, PartKeeps}
use Rattle.gabc_body.specs.witness.TextEvents.{text_events}
use Rattle.gabc_score.specs.witness.BodyStage.{part_with}
use Rattle.gabc_score.specs.machine.StageLaws.{Ends}

-- ---- what is open, by the parts of the kept text

abbrev pub is_after_text : KeptParts → Bool
is_after_text (in_text k) = false
is_after_text (in_notes u earlier k) = true

abbrev pub is_open_in : ℕ → KeptParts → Bool
is_open_in lines (in_text k) = text.is_open_after_text k
is_open_in lines (in_notes u earlier k) = if line_after lines 0 earlier == 0 then in_raw k else false

module _ (laws : Ends) (lines macros : ℕ) where
  pub notes_by : (b : BodyPart) (p : KeptParts) → PartKeeps lines macros b p → is_in_front b ≡ false → is_some (openers_of b).notes ≡ is_after_text p
  notes_by b p keeps front = grind arith

  pub inner_by : (b : BodyPart) (p : KeptParts) → PartKeeps lines macros b p → is_in_front b ≡ false → is_some (openers_of b).inner ≡ is_open_in lines p
  inner_by part.Comment p keeps front = absurd (false≢true (sym front))
  inner_by (part.Text s) (in_text k) keeps front = laws.text_opener s k keeps
  inner_by (part.Text s) (in_notes u earlier k) keeps front = absurd keeps
  inner_by (part.Notes opened s) (in_notes u earlier k) keeps front = grind arith
  inner_by (part.Nabc line opened s) (in_notes u earlier k) keeps front = grind arith
  inner_by _ (in_text k) keeps front = absurd keeps

-- ---- where the end cuts

-- a text, by its own events
pub text_cut_of : (es : List TextEvent) → cut_of (text_events es ++ []) ≡ text_tells.cut_place es
text_cut_of [] = refl
text_cut_of (text_out.Ended (text_end.Cut p) ∷ es) = refl
text_cut_of (_ ∷ es) = text_cut_of es

one_list : (lists : List (List TextEvent)) → length lists ≡ 0 + 1 → concat_of lists ≡ first_list lists
one_list [] e = absurd (omega (arith, e))
one_list (l ∷ []) e = append-nil l
one_list (l ∷ m ∷ lists) e = absurd (omega (arith, e))

other_none : (o : Option Place) → is_other o None ≡ is_some o
other_none o = grind arith

no_other : (p : Place) → is_other (Some p) (Some p) ≡ false
no_other p = ap (λ (b : Bool). not (b && p.column == p.column)) (same_eqb p.line) ∙ ap not (same_eqb p.column)

module _ (laws : Ends) (lines macros : ℕ) where
  -- The end cuts a part elsewhere than at its `(` exactly if something is open inside.
  pub cut_is : (b : BodyPart) (p : KeptParts) → PartKeeps lines macros b p → is_in_front b ≡ false → (next : Place) → AreOpenersBefore next (openers_of b)
      → is_other (cut_of (events_at_end (part_with b []) ++ [])) (openers_of b).notes ≡ is_some (openers_of b).inner
  cut_is b p keeps front next o = grind (arith, text_cut_of, one_list, other_none, no_other)
