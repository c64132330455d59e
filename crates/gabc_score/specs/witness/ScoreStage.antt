-- The outputs that a stage over a score has left, in any state. Nobody has to believe it: its
-- maker's contract states it of a fresh one.
use Rattle.std.specs.Prelude.{List}
use Rattle.gabc_places.specs.declared.limits.Limits.{Limits}
use Rattle.gabc_headers.specs.declared.head_event.HeadEvent.{HeadEvent}
use Rattle.gabc_score.specs.declared.preceding.Preceding.{Preceding}
use Rattle.gabc_score.specs.declared.score_machine.ScorePart.{ScorePart}
use Rattle.gabc_score.specs.witness.BodyStage.{BodyStageState}
use Rattle.gabc_score.specs.machine.ScoreStage.{HeldScore, outputs_left}
use Rattle.gabc_body.specs.ScoreEvents.{ScoreOutput}
use Rattle.gabc_body.specs.Syllable.{PlacedSyllable}

-- The state that a stage shows: its limits, its part of the score, the totals before the first
-- syllable not emitted, its state in the body and that of the body's machine, and the two syllables
-- that may be borrowed.
pub record ScoreStageState : Type 0 where
  pub limits : Limits
  pub part : ScorePart
  pub before : Preceding
  pub held : HeldScore
  pub body : BodyStageState
  pub first : PlacedSyllable
  pub second : PlacedSyllable

-- The outputs left for these inputs and their end. They are no promise but by the clause of the
-- stage's maker.
abbrev pub left_of : ScoreStageState → List HeadEvent → List (List ScoreOutput)
left_of s xs = outputs_left s.limits s.part s.held s.body xs
