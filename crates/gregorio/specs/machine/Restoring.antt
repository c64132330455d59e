-- The stages that are restored from the fields of a state.
use Rattle.std.specs.Prelude.{◌≡◌, ◌≤◌, false}
use Rattle.gabc_score.specs.declared.score_machine.ScorePart.TheVariants.{Body}
use Rattle.gabc_score.specs.ScoreReports.{IsAt, is_in_front}
use Rattle.gabc_score.specs.ReportedWithin.{HoldsIfAny, ReportsText, whole_syllables}
use Rattle.gabc_score.specs.witness.ScoreStage.{ScoreStageState}
use Rattle.gregorio_state.specs.Conditions.{AreStateFields}
use Rattle.gregorio_state.specs.Fields.{PhaseFields, ScoreFields, StateFields}
use Rattle.gregorio.specs.Saved.{score_fields}
use Rattle.gregorio.specs.SavedState.{ReportsLimits}

-- These are fields of a state in this phase.
pub record AreFieldsIn (phase : PhaseFields) (s : StateFields) : Type 0 where
  pub fields : AreStateFields s
  pub phase_is : s.phase ≡ phase

-- A stage over a score, under the limits of the state, reports what the fields of its score say, at
-- the place of the state, and its report is that of a text.
pub record IsSetDown (s : StateFields) (f : ScoreFields) (stage : ScoreStageState) : Type 0 where
  pub limits_are : ReportsLimits s stage.limits
  pub body : stage.part ≡ Body
  pub tells : score_fields f.in_force stage ≡ f
  pub next : stage.held.next ≡ s.place
  pub stands : IsAt stage.held.next stage.body.part
  pub front : is_in_front stage.body.part ≡ false
  pub told : ReportsText stage
  pub holds : HoldsIfAny stage
  pub whole : whole_syllables stage ≤ s.taken
