-- The invariant of any stage over a score. Nobody has to believe it: that each stage meets it is a
-- law.
use Rattle.std.specs.Prelude.{◌≡◌, ◌≤◌, length}
use Rattle.gabc_score.specs.declared.score_machine.ScoreMachine.{ScoreMachine}
use Rattle.gabc_score.specs.declared.score_machine.ScorePart.TheVariants as score_part
use Rattle.gabc_score.specs.machine.ScoreMachine.{shown, IsScore}
use Rattle.gabc_score.specs.witness.ScoreStage.{ScoreStageState}

-- A stage is reachable: some machine over a score shows this between two calls, and has at most one
-- whole syllable in the body, the pending one.
pub record IsReachable (s : ScoreStageState) : Type 0 where
  pub machine : ScoreMachine
  pub shows : shown machine ≡ s
  pub rests : IsScore machine
  pub few : machine.part ≡ score_part.Body → length machine.pair.gathered.made ≤ 1
