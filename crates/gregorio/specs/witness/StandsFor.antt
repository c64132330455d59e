-- The meaning of the bytes of a saved state.
use Rattle.std.specs.Prelude.{◌≡◌, ℕ, List}
use Rattle.gabc_places.specs.declared.limits.Limits.{Limits}
use Rattle.gregorio_jobs.specs.declared.job.Job.{Job}
use Rattle.gregorio_state.specs.StateBytes.{state_bytes}
use Rattle.gregorio.specs.declared.source_ending.SourceEnding.{SourceEnding}
use Rattle.gregorio.specs.Engine.{RunsJob}
use Rattle.gregorio.specs.Saved.{state_of}
use Rattle.gregorio.specs.SavedState.{AreOfState}
use Rattle.gregorio.specs.Streams.{Streams}
use Rattle.gregorio.specs.witness.Engine.{EngineState, streams_left}
use Rattle.gregorio.specs.witness.CanRun.{CanRun}

-- These bytes are the saved state of a run of this job under these limits, which writes `left` of
-- whatever follows.
pub record StandsFor (job : Job) (limits : Limits) (bytes : List ℕ) (left : SourceEnding → List ℕ → Streams) : Type 0 where
  pub engine : EngineState
  pub may : CanRun engine
  pub of_job : RunsJob job limits engine
  pub saved : bytes ≡ state_bytes (state_of engine)
  pub is_state : AreOfState (state_of engine)
  pub writes : (ending : SourceEnding) (more : List ℕ) → streams_left engine ending more ≡ left ending more
