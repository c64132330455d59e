use Rattle.std.proofs.Common.{arith}
use Rattle.gabc_text.proofs.RegularParts.{more_step}
use Rattle.gabc_text.proofs.regular.next_step.Goals as goal

pub returns-in-Some-clause-goes_on : goal.returns-in-Some-clause-goes_on
returns-in-Some-clause-goes_on c = grind (arith, more_step)
