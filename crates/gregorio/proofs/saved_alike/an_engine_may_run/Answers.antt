use Rattle.std.proofs.Common.{arith}
use Rattle.gregorio.proofs.pieces.EnginesAgree.{may_run}
use Rattle.gregorio.proofs.saved_alike.an_engine_may_run.Goals as goal

pub returns : goal.returns
returns c = grind (arith, may_run)
