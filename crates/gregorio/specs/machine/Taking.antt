-- The step of an engine with the bytes that it takes.
use Rattle.std.specs.Prelude.{◌≡◌, ℕ, ◌-◌, ◌≤◌, List, length, take, false}
use Rattle.gregorio_jobs.specs.declared.job.Status.TheVariants.{ReadFault}
use Rattle.gregorio.specs.Engine.{Brings, StillRuns, is_running}
use Rattle.gregorio.specs.declared.source_ending.SourceEnding.TheVariants.{Broken}
use Rattle.gregorio.specs.witness.Engine.{EngineState, streams_left}

-- It took these bytes: what they bring waits, after what waited before, and nothing else of the run
-- changes.
pub record Takes (old : EngineState) (bytes : List ℕ) (new : EngineState) : Type 0 where
  pub brings : Brings old bytes new
  pub format : new.written.format ≡ old.written.format
  pub job : StillRuns old new
  pub hasher : new.heads.hasher ≡ old.heads.hasher

-- It took `count` bytes from the front of a piece. If the run is over then, no fault was known
-- before the last of them.
pub record TakesFrom (old : EngineState) (piece : List ℕ) (count : ℕ) (new : EngineState) : Type 0 where
  pub within : count ≤ length piece
  pub takes : Takes old (take count piece) new
  pub fault : is_running new ≡ false → (streams_left old Broken (take (count - 1) piece)).status ≡ ReadFault
