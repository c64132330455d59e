use Rattle.std.proofs.Common.{arith}
use Rattle.gabc_score.proofs.score_events.EmittedScoreMeetsDefinition.{score_is}
use Rattle.gabc_score.proofs.score_stage.ScoreStage.restart.Goals as goal

pub returns-clause-outputs : goal.returns-clause-outputs
returns-clause-outputs c xs below = grind (arith, score_is)
