-- The outcome of an input is that of all that its body emits.
use Rattle.std.proofs.Common.{◌≡◌, ℕ, ◌<◌, ◌≤◌, ◌^◌, List, length, encode_utf8_all, ap, arith}
use Rattle.std.specs.Char.{IsScalar}
use Rattle.std.specs.List.{All}
use Rattle.gabc_places.specs.declared.limits.Limits.{Limits}
use Rattle.gabc_places.specs.Text.{decoded_of, text_of_bytes}
use Rattle.gabc_body.specs.declared.ending.InputEnding.{InputEnding}
use Rattle.gabc_body.specs.Score.{score_of}
use Rattle.gabc_body.specs.witness.EmittedScore.{emitted_score}
use Rattle.gregorio.specs.declared.source_ending.SourceEnding.{SourceEnding}
use Rattle.gregorio.specs.Outcome.{is_whole, ending_by, outcome_of}
use Rattle.gregorio.specs.witness.EmittedOutcome.{outcome_with, emitted_outcome}

-- by laws of the crates below
pub record ScoresAreRead : Type 0 where
  pub scalars : (limit : ℕ) (bytes : List ℕ) → All IsScalar (text_of_bytes limit bytes)
  pub short : (limit : ℕ) (bytes : List ℕ) → length (encode_utf8_all (text_of_bytes limit bytes)) ≤ limit
  pub emitted : (limits : Limits) (ending : InputEnding) (t : List ℕ) → All IsScalar t → length (encode_utf8_all t) < 2 ^ 63 → score_of limits ending t ≡ emitted_score limits ending t

pub outcome_is : ScoresAreRead → (limits : Limits) (ending : SourceEnding) (bytes : List ℕ) → outcome_of limits ending bytes ≡ emitted_outcome limits ending bytes
outcome_is read limits ending bytes =
    let decoded = decoded_of limits (is_whole ending) bytes in
    let small : length (encode_utf8_all decoded.text) < 2 ^ 63 = omega (arith, read.short limits.input bytes, limits.in_range.input_most) in
    ap (outcome_with ending) (read.emitted limits (ending_by ending decoded.fault) decoded.text (read.scalars limits.input bytes) small)
