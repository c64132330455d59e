use Rattle.std.proofs.Common.{arith}
use Rattle.gregorio.proofs.pieces.BytesAreTaken.{over_left}
use Rattle.gregorio.proofs.engine.Engine.fault.Goals as goal

pub returns-clause-over : goal.returns-clause-over
returns-clause-over c = grind (arith, over_left)
