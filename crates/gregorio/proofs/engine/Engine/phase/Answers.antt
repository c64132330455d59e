use Rattle.std.proofs.Common.{arith}
use Rattle.gregorio.proofs.engine.Engine.phase.Goals as goal

pub returns-in-Some : goal.returns-in-Some
returns-in-Some c = grind arith
