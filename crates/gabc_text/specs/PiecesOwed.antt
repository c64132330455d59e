-- How many pieces a text emits, against the characters that it keeps.
use Rattle.std.specs.Prelude.{ℕ, suc, zero, ◌+◌, ◌≤◌, length, List, [], ◌∷◌}
use Rattle.gabc_text.specs.declared.text_event.TextPart.TheVariants as part
use Rattle.gabc_text.specs.declared.text_event.TextEvent.{TextEvent}
use Rattle.gabc_text.specs.declared.text_event.TextEvent.TheVariants as out
use Rattle.gabc_text.specs.declared.stage.TextStage.{TextStage}
use Rattle.gabc_text.specs.BuiltText.{kept_in}
use Rattle.gabc_text.specs.witness.PiecesOwed.{pieces_owed}

-- the pieces among the events
abbrev pub pieces_in : List TextEvent → ℕ
pieces_in [] = zero
pieces_in (out.Part (part.Piece p) ∷ os) = suc (pieces_in os)
pieces_in (o ∷ os) = pieces_in os

-- with these events the stage has emitted no more pieces than it owed, and as many as it kept
-- characters
abbrev pub PiecesArePaid : TextStage → List TextEvent → TextStage → Type 0
PiecesArePaid before events after = pieces_in events + pieces_owed after ≤ pieces_owed before + length (kept_in events)
