-- The streams that are written of the outputs of two stages over a score.
use Rattle.std.specs.Prelude.{◌≡◌, ℕ, List}
use Rattle.gabc_headers.specs.declared.head_event.HeadEvent.{HeadEvent}
use Rattle.gabc_score.specs.witness.ScoreStage.{ScoreStageState, left_of}
use Rattle.gregorio.specs.witness.Engine.{Written, streams_from}

-- For these events the same is written of the outputs of both stages, whatever was written before
-- and whatever the headers are.
abbrev pub WriteTheSame : ScoreStageState → ScoreStageState → List HeadEvent → Type 0
WriteTheSame one other from_heads =
    (w : Written) (book : List (List ℕ × List ℕ)) → streams_from w book from_heads (left_of one from_heads) ≡ streams_from w book from_heads (left_of other from_heads)
