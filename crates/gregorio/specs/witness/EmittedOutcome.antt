-- The outcome of an input, by all that its body emits.
use Rattle.std.specs.Prelude.{ℕ, List}
use Rattle.gabc_places.specs.declared.limits.Limits.{Limits}
use Rattle.gabc_places.specs.Text.{decoded_of}
use Rattle.gabc_body.specs.declared.score.Score.{Score}
use Rattle.gabc_body.specs.witness.EmittedScore.{emitted_score}
use Rattle.gregorio.specs.declared.outcome.Outcome.{Outcome}
use Rattle.gregorio.specs.declared.source_ending.SourceEnding.{SourceEnding}
use Rattle.gregorio.specs.Outcome.{is_whole, ending_by, is_cut_short}

-- the outcome of an input with this ending and this score
abbrev pub outcome_with : SourceEnding → Score → Outcome
outcome_with ending score = record { score = score; broken = is_cut_short ending score.fault }

abbrev pub emitted_outcome : Limits → SourceEnding → List ℕ → Outcome
emitted_outcome limits ending bytes =
    let decoded = decoded_of limits (is_whole ending) bytes in
    outcome_with ending (emitted_score limits (ending_by ending decoded.fault) decoded.text)
