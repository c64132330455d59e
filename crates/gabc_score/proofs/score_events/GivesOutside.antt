-- If a stage does not stand in the body after an input, it gives what was to come by these facts
-- alone.
use Rattle.std.proofs.Common.{◌≡◌, ℕ, List, ◌∷◌, true, arith}
use Rattle.std.specs.List.{list_any}
use Rattle.gabc_places.specs.BoundedList.{BoundedList}
use Rattle.gabc_headers.specs.declared.head_event.HeadEvent.{HeadEvent}
use Rattle.gabc_headers.specs.declared.head_event.HeadEvent.TheVariants as head_event
use Rattle.gabc_score.specs.declared.score_event.ScoreEvent.{ScoreEvent}
use Rattle.gabc_score.specs.declared.score_machine.ScorePart.TheVariants as score_part
use Rattle.gabc_body.specs.ScoreEvents.{ScoreOutput, is_last}
use Rattle.gabc_score.specs.ScoreStage.{GivesAt, GivesOutputs, Lends, PassesOn, is_final, most_borrowed, part_past}
use Rattle.gabc_score.specs.witness.ScoreStage.{ScoreStageState, left_of}

-- what is asked wherever the stage stands then
pub record GivesThere (before : ScoreStageState) (x : HeadEvent) (after : ScoreStageState) (old new : BoundedList ScoreEvent) (outputs : List ScoreOutput) : Type 0 where
  pub lends : Lends before.limits (most_borrowed x) outputs
  pub limits : after.limits ≡ before.limits
  pub part : after.part ≡ part_past before.part x outputs
  pub last : (before.part ≡ score_part.Over → ⊥) → is_final x ≡ true → list_any is_last outputs ≡ true
  pub passes : (before.part ≡ score_part.Over → ⊥) → PassesOn x outputs
  pub law : (xs : List HeadEvent) → left_of before (x ∷ xs) ≡ outputs ∷ left_of after xs
  pub emitted : GivesOutputs outputs old new after.first after.second

pub gives_outside : {before after : ScoreStageState} {x : HeadEvent} {old new : BoundedList ScoreEvent} (outputs : List ScoreOutput) → (after.part ≡ score_part.Body → ⊥)
    → (before.part ≡ score_part.Heads → (lines macros canonical : ℕ) → x ≡ head_event.Heads lines macros canonical → ⊥) → GivesThere before x after old new outputs → GivesAt before x after old new
gives_outside outputs outside other g = grind arith
