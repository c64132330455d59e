-- A run over a score, as far as it is kept.
use Rattle.std.specs.Prelude.{◌≡◌, ℕ, ◌<◌, ◌-◌, ◌^◌, List}
use Rattle.gabc_places.specs.declared.limits.Limits.{Limits}
use Rattle.gabc_places.specs.Limits.{AreUsual}
use Rattle.gregorio.specs.Streams.{Streams}
use Rattle.gregorio_c.specs.declared.compiled.Run.{Run}
use Rattle.gregorio_c.specs.declared.request.Request.{Request}
use Rattle.gregorio_c.specs.machine.FirstBytes.{Keeps}
use Rattle.gregorio_c.specs.machine.Streams.{streams_of_score}

-- it wrote these texts, ended so, and all bytes are counted
pub record HasWritten (run : Run) (streams : Streams) : Type 0 where
  pub output : Keeps run.output streams.output
  pub messages : Keeps run.messages streams.messages
  pub status : run.status ≡ streams.status
  pub fault : run.fault ≡ streams.fault
  pub output_counted : run.output.counter < 2 ^ 64 - 1
  pub messages_counted : run.messages.counter < 2 ^ 64 - 1

-- a run over a score under these limits writes what one under the default ones does
pub record IsAsUsual (request : Request) (limits : Limits) (score : List ℕ) : Type 0 where
  pub usual : Limits
  pub is_usual : AreUsual usual.header usual.syllable usual.input
  pub same : streams_of_score request limits score ≡ streams_of_score request usual score
