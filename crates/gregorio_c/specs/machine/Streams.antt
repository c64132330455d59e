-- The texts that a run over a score writes.
use Rattle.std.specs.Prelude.{◌≡◌, ℕ, List, length}
use Rattle.gabc_places.specs.declared.limits.Limits.{Limits}
use Rattle.gregorio.specs.declared.source_ending.SourceEnding.TheVariants.{Whole}
use Rattle.gregorio.specs.Outcome.{outcome_of, output_of, lines_of, status_of}
use Rattle.gregorio.specs.Streams.{Streams}
use Rattle.gregorio_c.specs.Answers.{stdin_name}
use Rattle.gregorio_c.specs.declared.lengths.Lengths.{Lengths}
use Rattle.gregorio_c.specs.declared.request.Request.{Request}

-- the texts for a whole score
abbrev pub streams_of_score : Request → Limits → List ℕ → Streams
streams_of_score request limits score =
    let outcome = outcome_of limits Whole score in
    record { output = output_of request.format outcome; messages = lines_of stdin_name request.all_warnings outcome.score; status = status_of outcome; fault = outcome.score.fault }

-- the lengths of an output and of messages
pub record AreLengthsOf (lengths : Lengths) (streams : Streams) : Type 0 where
  pub output : lengths.output ≡ length streams.output
  pub messages : lengths.messages ≡ length streams.messages
