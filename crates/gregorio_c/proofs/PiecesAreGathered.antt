-- What an engine writes of a piece is gathered as it comes.
use Rattle.std.proofs.Common.{◌≡◌, ℕ, ◌+◌, List, [], ◌++◌, drop, take, sym, ap, ◌∙◌}
use Rattle.gregorio.specs.declared.source_ending.SourceEnding.{SourceEnding}
use Rattle.gregorio.specs.Streams.{after_bytes}
use Rattle.gregorio.specs.witness.Engine.{EngineState, streams_left}
use Rattle.gregorio.proofs.InputsArePut.{left_past}
use Rattle.gregorio.proofs.PiecesAreSent.{IsTaken}
use Rattle.gregorio.proofs.pieces.BytesAreJoined.{with_both_after}

-- n bytes of a piece more are taken, and what was written at them is gathered
pub gathered : (first e f g : EngineState) (piece output lines output_then lines_then : List ℕ) (count k : ℕ) → g ≡ record f { output = []; messages = [] } → IsTaken e f (take k (drop count piece))
    → ((ending : SourceEnding) (more : List ℕ) → streams_left first ending (piece ++ more) ≡ after_bytes output lines (streams_left e ending (drop count piece ++ more)))
    → output_then ≡ output ++ f.output → lines_then ≡ lines ++ f.messages
    → (ending : SourceEnding) (more : List ℕ) → streams_left first ending (piece ++ more) ≡ after_bytes output_then lines_then (streams_left g ending (drop (count + k) piece ++ more))
gathered first e f g piece output lines output_then lines_then count k forgets law so_far out told ending more =
    let rest = streams_left g ending (drop (count + k) piece ++ more) in
    so_far ending more
    ∙ (ap (after_bytes output lines) (left_past e f g piece count k law forgets ending more)
    ∙ (sym (with_both_after output lines f.output f.messages rest)
    ∙ (ap (λ (bytes : List ℕ). after_bytes bytes (lines ++ f.messages) rest) (sym out) ∙ ap (λ (bytes : List ℕ). after_bytes output_then bytes rest) (sym told))))
