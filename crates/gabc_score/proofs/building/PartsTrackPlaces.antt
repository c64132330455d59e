-- A part stands after each character with the place that it has counted.
use Rattle.std.proofs.Common.{◌≡◌, ℕ, false, List, [], refl, ap, ◌∙◌, arith}
use Rattle.std.specs.List.{list_any}
use Rattle.gabc_places.specs.Place.{saturating_next_place}
use Rattle.gabc_places.specs.declared.place.Char.{Char}
use Rattle.gabc_places.specs.declared.place.Place.{Place}
use Rattle.gabc_text.specs.declared.stage.TextStage.{TextStage}
use Rattle.gabc_text.specs.declared.text_event.TextEvent.{TextEvent}
use Rattle.gabc_text.specs.witness.Keeps as text
use Rattle.gabc_score.specs.declared.body_stage.BodyPart.{BodyPart}
use Rattle.gabc_score.specs.declared.body_stage.BodyPart.TheVariants as part
use Rattle.gabc_body.specs.Events.{is_text_end}
use Rattle.gabc_score.specs.ScoreReports.{IsAt}
use Rattle.gabc_score.specs.machine.PartKeeps.{in_text, in_notes, PartStandsOn}
use Rattle.gabc_score.proofs.building.SnippetsTakeCharacters.{close_mark, stays_in_notes}
use Rattle.gabc_score.proofs.building.PartsOfKeptText.{text_goes_on}
use Rattle.gabc_body.specs.declared.events.BodyEvent.{BodyEvent}
use Rattle.gabc_text.proofs.resuming.StagesKeep.{fresh_keeps}
use Rattle.gabc_score.specs.machine.PartSteps.{PartSteps, Begins}
use Rattle.gabc_score.specs.machine.PartSteps as step

-- a part that reads a snippet counts no place
snippet_stands : {lines macros line : ℕ} {opened : Place} (at : Place) (after : BodyPart) → Begins lines macros line opened after → IsAt at after
snippet_stands at after b = grind arith

module _ (lines macros : ℕ) (x : Char) where
  pub text_stands_on : (s t : TextStage) (es : List TextEvent) → text.KeepsOn s x.c es t → list_any is_text_end es ≡ false → PartStandsOn lines macros x (part.Text s) (part.Text t)
  text_stands_on s t es on goes_on (in_notes u earlier k) h at = absurd h
  text_stands_on s t es on goes_on (in_text k) h at =
      (on.goes k h (text_goes_on s t x.c es k on h goes_on)).next ∙ ap (λ (p : Place). saturating_next_place p x.c) at

-- ---- a part takes a character

pub stands_on : {lines macros : ℕ} {x : Char} {before after : BodyPart} {now : List BodyEvent} → PartSteps lines macros x before now after → PartStandsOn lines macros x before after
stands_on (step.in_front h) = λ p keeps at. tt
stands_on {x = x} (step.leaves_front h s) = λ p keeps at. stands_on s (in_text []) (fresh_keeps x.place) refl
stands_on {lines} {macros} {x} (step.text_goes {s} {t} {es} h e) = text_stands_on lines macros x s t es h.keeps e
stands_on (step.text_ends {after = after} h e b) = λ p keeps at. snippet_stands _ after b
stands_on {x = x} (step.snippet_goes {after = after} s n c) = λ p keeps at. (stays_in_notes s).stands (saturating_next_place x.place x.c)
stands_on (step.snippet_next {after = after} s n b) = λ p keeps at. snippet_stands _ after b
stands_on {lines} {macros} {x} (step.snippet_closes s n c) = grind (arith, close_mark)
