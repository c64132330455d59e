-- Larger limits change nothing, if the input may be as long and nothing in it was too long.
use Rattle.std.proofs.Common.{◌≡◌, ℕ, List, length, take, nat_lt, false, sym, ap, ◌∙◌, arith}
use Rattle.std.specs.Option.{option_map}
use Rattle.gabc_places.specs.declared.code.Code.{Code}
use Rattle.gabc_places.specs.declared.decoded.Decoded.{Decoded}
use Rattle.gabc_places.specs.declared.limits.Limits.{Limits}
use Rattle.gabc_places.specs.LargerLimits.{AreNoLess}
use Rattle.gabc_places.specs.Place.{place_after}
use Rattle.gabc_places.specs.Text.{decoded_of, stop_code_of, tail_of, text_of_bytes}
use Rattle.gabc_headers.specs.TooLong.{is_stopped_too_long}
use Rattle.gabc_body.specs.declared.ending.InputEnding as score
use Rattle.gabc_body.specs.witness.EmittedScore.{emitted_score}
use Rattle.gregorio.specs.declared.source_ending.SourceEnding.{SourceEnding}
use Rattle.gregorio.specs.declared.outcome.Outcome.{Outcome}
use Rattle.gregorio.specs.Outcome.{is_whole, outcome_of}
use Rattle.gregorio.specs.witness.EmittedOutcome.{emitted_outcome}
use Rattle.gregorio.proofs.OutcomeIsEmitted.{ScoresAreRead, outcome_is}

-- the text of an input depends on one limit
abbrev decoded_within : ℕ → SourceEnding → List ℕ → Decoded
decoded_within limit ending bytes =
    let text = text_of_bytes limit bytes in
    record { text = text; fault = option_map (λ (code : Code). record { place = place_after text; code = code }) (stop_code_of (nat_lt limit (length bytes)) (is_whole ending) (tail_of (take limit bytes))) }

same_text : (limits larger : Limits) (ending : SourceEnding) (bytes : List ℕ) → limits.input ≡ larger.input
    → decoded_of larger (is_whole ending) bytes ≡ decoded_of limits (is_whole ending) bytes
same_text limits larger ending bytes same = ap (λ (limit : ℕ). decoded_within limit ending bytes) (sym same)

same_emitted : ((limits larger : Limits) (ending : score.InputEnding) (t : List ℕ) → AreNoLess limits larger → limits.input ≡ larger.input
    → is_stopped_too_long (emitted_score limits ending t).fault ≡ false → emitted_score larger ending t ≡ emitted_score limits ending t)
    → (limits larger : Limits) (ending : SourceEnding) (bytes : List ℕ) → AreNoLess limits larger → limits.input ≡ larger.input
    → is_stopped_too_long (emitted_outcome limits ending bytes).score.fault ≡ false → emitted_outcome larger ending bytes ≡ emitted_outcome limits ending bytes
same_emitted same_score limits larger ending bytes no_less same not_long = grind (arith, same_text)

pub same_outcome : ScoresAreRead → ((limits larger : Limits) (ending : score.InputEnding) (t : List ℕ) → AreNoLess limits larger → limits.input ≡ larger.input
    → is_stopped_too_long (emitted_score limits ending t).fault ≡ false → emitted_score larger ending t ≡ emitted_score limits ending t)
    → (limits larger : Limits) (ending : SourceEnding) (bytes : List ℕ) → AreNoLess limits larger → limits.input ≡ larger.input
    → is_stopped_too_long (outcome_of limits ending bytes).score.fault ≡ false → outcome_of larger ending bytes ≡ outcome_of limits ending bytes
same_outcome read same_score limits larger ending bytes no_less same not_long =
    let is = outcome_is read limits ending bytes in
    outcome_is read larger ending bytes
    ∙ (same_emitted same_score limits larger ending bytes no_less same (sym (ap (λ (o : Outcome). is_stopped_too_long o.score.fault) is) ∙ not_long) ∙ sym is)
