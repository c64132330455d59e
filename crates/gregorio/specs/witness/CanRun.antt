-- The invariant of each engine that runs, by the state that it shows.
use Rattle.std.specs.Prelude.{◌≡◌, true}
use Rattle.gabc_places.specs.DecoderReports.{MayBeReported, is_after_cr}
use Rattle.gabc_score.specs.witness.IsReachable.{IsReachable}
use Rattle.gregorio.specs.Engine.{is_running}
use Rattle.gregorio.specs.witness.Engine.{EngineState}
use Rattle.gregorio.specs.machine.InStep.{HasForce, RunsInStep}
use Rattle.gregorio.specs.machine.ReadsHeaders.{IsReadSoFar}
use Rattle.gregorio.specs.machine.InSync.{IsInSync}

-- An engine that runs may show this: its parts are in step, and each of them is reachable.
pub record CanRun (e : EngineState) : Type 0 where
  pub runs : is_running e ≡ true
  pub step : RunsInStep e.decoder e.heads e.score e.written
  pub force : HasForce e.written
  pub read : IsReadSoFar e.heads.limits e.heads.progress e.decoder.place e.written.errors
  pub limits : e.heads.limits ≡ e.score.limits
  pub tells : IsInSync e.decoder e.score e.written
  pub decoder : MayBeReported e.decoder.limit e.decoder.taken e.decoder.place e.decoder.pending (is_after_cr e.decoder)
  pub score : IsReachable e.score
