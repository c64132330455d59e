-- After an LF no comment is open in a part of the body.
use Rattle.std.proofs.Common.{◌≡◌, ℕ, Bool, false, List, [], arith}
use Rattle.std.specs.List.{list_any}
use Rattle.gabc_places.specs.declared.place.Char.{Char}
use Rattle.gabc_text.specs.declared.stage.TextStage.{TextStage}
use Rattle.gabc_text.specs.declared.text_event.TextEvent.{TextEvent}
use Rattle.gabc_text.specs.witness.Keeps as text
use Rattle.gabc_score.specs.declared.body_stage.BodyPart.{BodyPart}
use Rattle.gabc_score.specs.declared.body_stage.BodyPart.TheVariants as part
use Rattle.gabc_body.specs.Events.{after_mark, is_text_end}
use Rattle.gabc_score.specs.machine.PartKeeps.{in_text}
use Rattle.gabc_score.specs.machine.PartOpens.{PartEndsLine}
use Rattle.gabc_score.proofs.building.SnippetsTakeCharacters.{going}
use Rattle.gabc_score.proofs.building.PartsOfKeptText.{text_goes_on}
use Rattle.gabc_body.specs.declared.events.BodyEvent.{BodyEvent}
use Rattle.gabc_text.proofs.resuming.StagesKeep.{fresh_keeps}
use Rattle.gabc_text.proofs.resuming.EndedAndFreshStagesHaveNothingOpen.{comment_fresh}
use Rattle.gabc_score.specs.machine.PartSteps.{PartSteps}
use Rattle.gabc_score.specs.machine.PartSteps as step

module _ (lines macros : ℕ) (x : Char) where
  text_comment : (k : List ℕ) (comment : Bool) → text.comment_with k comment 10 ≡ false
  text_comment k comment = grind arith

  pub text_ends_line : (s t : TextStage) (es : List TextEvent) → text.KeepsOn s x.c es t → list_any is_text_end es ≡ false → PartEndsLine lines macros x (part.Text s) (part.Text t)
  text_ends_line s t es on goes_on k h lf = grind (arith, text_goes_on, text_comment)

-- ---- a part takes a character

pub ends_line : {lines macros : ℕ} {x : Char} {before after : BodyPart} {now : List BodyEvent} → PartSteps lines macros x before now after → PartEndsLine lines macros x before after
ends_line (step.in_front h) = λ p keeps lf. absurd (h lf)
ends_line {x = x} (step.leaves_front h s) = λ p keeps lf. ends_line s (in_text []) (fresh_keeps x.place) lf
ends_line {lines} {macros} {x} (step.text_goes {s} {t} {es} h e) = text_ends_line lines macros x s t es h.keeps e
ends_line (step.text_ends h e b) = λ p keeps lf. b.tells.1
ends_line {lines} {macros} (step.snippet_goes s n c) = λ p keeps. (going lines macros s p keeps n c).line_ends
ends_line (step.snippet_next s n b) = λ p keeps lf. b.tells.1
ends_line {x = x} (step.snippet_closes s n c) = λ p keeps lf. comment_fresh (after_mark x.place)
