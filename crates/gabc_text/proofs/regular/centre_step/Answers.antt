use Rattle.std.proofs.Common.{arith}
use Rattle.gabc_text.proofs.RegularParts.{centre_step}
use Rattle.gabc_text.proofs.regular.centre_step.Goals as goal

pub returns-clause-goes_on : goal.returns-clause-goes_on
returns-clause-goes_on c = grind (arith, centre_step)
