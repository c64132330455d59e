use Rattle.std.proofs.Common.{arith}
use Rattle.gabc_text.proofs.RegularParts.{blank_more_step}
use Rattle.gabc_text.proofs.regular.step_after_blank.Goals as goal

pub returns-clause-goes_on : goal.returns-clause-goes_on
returns-clause-goes_on c = grind (arith, blank_more_step)
