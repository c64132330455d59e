-- A stage over a score on its way to be restored from the fields of a state.
use Rattle.std.specs.Prelude.{◌≡◌, ◌+◌, ◌-◌, false, Some}
use Rattle.gabc_places.specs.declared.limits.Limits.{Limits}
use Rattle.gabc_places.specs.declared.place.Place.{Place}
use Rattle.gabc_score.specs.ReadAgain.{ReportsReading}
use Rattle.gabc_score.specs.Resumed.{BeginsText, IsAfterSyllables}
use Rattle.gabc_score.specs.ScoreReports.{IsAt, before_of, held_of, is_in_comment, is_in_front, openers_of, reading_of}
use Rattle.gabc_score.specs.ReportedWithin.{ReportsText}
use Rattle.gabc_score.specs.declared.body_tells.Openers.{Openers}
use Rattle.gabc_score.specs.witness.ReadAgain.{CanBeReadAgain}
use Rattle.gabc_score.specs.witness.ScoreStage.{ScoreStageState}
use Rattle.gregorio_state.specs.Fields.{ScoreFields}
use Rattle.gregorio.specs.Saved.{held_count, held_text}
use Rattle.gregorio.specs.SavedState.{before_held}

-- the places of the openers
abbrev pub openers_reported : ScoreFields → Openers
openers_reported f = record { notes = f.notes_opener; inner = f.inner_opener }

-- The stage has the totals before the pending syllable of the fields, and none is pending yet.
pub record IsResumed (limits : Limits) (f : ScoreFields) (stage : ScoreStageState) : Type 0 where
  pub stands : IsAfterSyllables limits (before_held f) stage
  pub told : ReportsText stage

-- The stage has the totals before the pending syllable of the fields, and this one is pending, if
-- there is one.
pub record StandsAfterHeld (f : ScoreFields) (stage : ScoreStageState) : Type 0 where
  pub before_is : before_of stage ≡ Some (before_held f)
  pub text : held_text stage.before (held_of stage) ≡ f.held
  pub count : (f.syllables - 1) + held_count (held_of stage) ≡ f.syllables

-- The stage is at the beginning of the next text.
pub record HoldsHeld (f : ScoreFields) (stage : ScoreStageState) : Type 0 where
  pub after : StandsAfterHeld f stage
  pub begins : BeginsText stage
  pub told : ReportsText stage

-- The stage has read the kept text of the fields, with the same openers and comment.
pub record HasRead (f : ScoreFields) (stage : ScoreStageState) : Type 0 where
  pub kept : reading_of stage ≡ f.kept
  pub openers_are : openers_of stage.body.part ≡ openers_reported f
  pub comment : is_in_comment stage.body.part ≡ f.in_comment

-- Some stage under these limits that reads a syllable after the comment in front reports the kept
-- text, its openers, and whether a comment is open.
pub record IsReportedSo (limits : Limits) (f : ScoreFields) : Type 0 where
  pub stage : ScoreStageState
  pub keeps : CanBeReadAgain stage
  pub limits_are : stage.limits ≡ limits
  pub lines : stage.body.nabc_lines ≡ f.nabc_lines
  pub macros : stage.body.macros ≡ f.macros
  pub tells : ReportsReading stage f.kept (openers_reported f) f.in_comment

-- The stage has read the kept text, after the comment in front, and the next character is at
-- `place`.
pub record ReadsOn (place : Place) (f : ScoreFields) (stage : ScoreStageState) : Type 0 where
  pub after : StandsAfterHeld f stage
  pub read : HasRead f stage
  pub front : is_in_front stage.body.part ≡ false
  pub next : stage.held.next ≡ place
  pub stands : IsAt place stage.body.part
  pub told : ReportsText stage
