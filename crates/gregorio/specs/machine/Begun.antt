-- An engine that has taken nothing of its input.
use Rattle.std.specs.Prelude.{◌≡◌, ℕ, List, ◌++◌, length, take}
use Rattle.gabc_places.specs.Decoder.{known_of, known_at_end}
use Rattle.gabc_places.specs.StageLaw.{concat_of}
use Rattle.gabc_places.specs.declared.limits.Limits.{Limits}
use Rattle.gabc_places.specs.witness.DecoderEvents as decoder
use Rattle.gabc_headers.specs.declared.head_event.HeadEvent.{HeadEvent}
use Rattle.gabc_headers.specs.witness.HeadEvents.{fresh_stage}
use Rattle.gabc_body.specs.ScoreEvents.{score_outputs}
use Rattle.gabc_score.specs.ScoreStage.{AreCountsBelow}
use Rattle.gabc_score.specs.witness.BodyStage.{texts_by_stage}
use Rattle.gabc_score.specs.witness.ScoreStage.{left_of}
use Rattle.gregorio_jobs.specs.declared.job.Job.{Job}
use Rattle.gregorio.specs.witness.Engine.{EngineState}
use Rattle.gregorio.specs.machine.ScoreWriter.{fresh_writer}

-- It runs this job under these limits, and each part has taken nothing.
pub record HasBegun (job : Job) (limits : Limits) (s : EngineState) : Type 0 where
  pub known : (bytes more : List ℕ) → concat_of (take (length bytes) (decoder.events_left s.decoder (bytes ++ more))) ≡ known_of limits bytes
  pub at_end : (bytes : List ℕ) → concat_of (decoder.events_left s.decoder bytes) ≡ known_at_end limits bytes
  pub heads : s.heads ≡ fresh_stage limits s.heads.hasher
  pub score : (xs : List HeadEvent) → AreCountsBelow xs → left_of s.score xs ≡ score_outputs texts_by_stage limits xs
  pub written : s.written ≡ fresh_writer job
