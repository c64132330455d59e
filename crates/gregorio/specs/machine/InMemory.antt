-- A run between two pieces of its input.
use Rattle.gabc_places.specs.declared.limits.Limits.{Limits}
use Rattle.gregorio_jobs.specs.declared.job.Job.{Job}
use Rattle.gregorio.specs.Engine.{NothingWaits, RunsJob}
use Rattle.gregorio.specs.witness.Engine.{EngineState}

-- An engine runs this job under these limits, and nothing waits in it.
pub record IsBetweenPieces (job : Job) (limits : Limits) (e : EngineState) : Type 0 where
  pub waits : NothingWaits e
  pub job_is : RunsJob job limits e
