-- The parts of a run that continues from a saved state.
use Rattle.std.specs.Prelude.{◌≡◌, ◌+◌, ◌-◌, ◌*◌, ◌≤◌, ℕ, List, [], true}
use Rattle.std.specs.Str.{chars}
use Rattle.std.specs.declared.hash.DefaultHasher.{DefaultHasher}
use Rattle.gabc_places.specs.declared.limits.Limits.{Limits}
use Rattle.gabc_headers.specs.HeldText.{holding}
use Rattle.gabc_headers.specs.witness.HeadEvents.{HeaderStageState}
use Rattle.gabc_score.specs.declared.score_machine.ScorePart.TheVariants.{Heads}
use Rattle.gabc_score.specs.witness.ScoreStage.{ScoreStageState}
use Rattle.gregorio_jobs.specs.declared.job.Job.{Job}
use Rattle.gregorio_state.specs.Fields.{PhaseFields, ScoreFields, StateFields, InHeaders, InScore}
use Rattle.gregorio.specs.Engine.{NothingWaits, RunsJob, is_running}
use Rattle.gregorio.specs.Saved.{GivesHeaders, state_of}
use Rattle.gregorio.specs.witness.Engine.{EngineState, Written}
use Rattle.gregorio.specs.machine.HeldHeaders.{after_mark}
use Rattle.gregorio.specs.machine.Restoring.{IsSetDown}
use Rattle.gregorio.specs.machine.RunWriter.{RunWriterState, line_room, most_waiting, out_room}
use Rattle.gregorio.specs.machine.ScoreWriter.{fresh_writer}

-- the state of what was written: in the headers nothing, and in the score the headers and all
-- syllables but the pending one
abbrev pub written_by : Job → StateFields → PhaseFields → Written
written_by job s (InHeaders text) = record (fresh_writer job) { errors = s.has_error }
written_by job s (InScore f) = record (fresh_writer job) { headed = true; count = f.syllables - 1; force = f.in_force; errors = s.has_error }

-- In the headers the stage of headers has their text, and the stage over the score is before the
-- body.
pub record StandInHeaders (s : StateFields) (text : List ℕ) (limits : Limits) (h : HeaderStageState) (score : ScoreStageState) : Type 0 where
  pub heads : h ≡ holding limits h.hasher (chars text)
  pub gives : GivesHeaders limits (chars text) s.place s.has_error
  pub part : score.part ≡ Heads

-- In the score the stage of headers is after the line `%%`, and the stage over the score is
-- restored.
pub record StandInScore (s : StateFields) (f : ScoreFields) (limits : Limits) (h : HeaderStageState) (score : ScoreStageState) : Type 0 where
  pub heads : h ≡ after_mark limits h.hasher
  pub set_down : IsSetDown s f score

abbrev pub StandIn : StateFields → PhaseFields → Limits → HeaderStageState → ScoreStageState → Type 0
StandIn s (InHeaders text) limits h score = StandInHeaders s text limits h score
StandIn s (InScore f) limits h score = StandInScore s f limits h score

-- the stages are, under these limits, in the states that these fields say
pub record StandSo (s : StateFields) (limits : Limits) (h : HeaderStageState) (score : ScoreStageState) : Type 0 where
  pub limits_are : score.limits ≡ limits
  pub stand : StandIn s s.phase limits h score

-- An engine of this job under these limits has these fields of a state, has this hasher of names,
-- and runs; nothing waits in it.
pub record GoesOn (job : Job) (limits : Limits) (s : StateFields) (hasher : DefaultHasher) (e : EngineState) : Type 0 where
  pub state : state_of e ≡ s
  pub job_is : RunsJob job limits e
  pub running : is_running e ≡ true
  pub waits : NothingWaits e
  pub hasher_is : e.heads.hasher ≡ hasher

-- nothing waits, and there is room for all that is written under these limits
pub record HasEmptyRooms (limits : Limits) (w : RunWriterState) : Type 0 where
  pub output : w.out.items ≡ []
  pub lines : w.messages.items ≡ []
  pub out : out_room w.written.format limits + most_waiting limits ≤ w.out.limit
  pub messages : 128 * line_room w.written.name + most_waiting limits ≤ w.messages.limit
