use Rattle.std.proofs.Common.{arith}
use Rattle.gabc_score.proofs.score_events.EmittedScoreMeetsDefinition.{score_is}
use Rattle.gabc_score.proofs.score_stage.ScoreStage.in_memory.Goals as goal

pub returns-clause-outputs : goal.returns-clause-outputs
returns-clause-outputs c = score_is c.args.limits (let r = c.args.limits.in_range in omega (arith, r)) (let r = c.args.limits.in_range in omega (arith, r))
