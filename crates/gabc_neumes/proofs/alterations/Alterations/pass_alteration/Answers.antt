use Rattle.std.proofs.Common.{arith}
use Rattle.gabc_neumes.proofs.StepsArePassed.{altered, past_the_heights}
use Rattle.gabc_neumes.proofs.alterations.Alterations.pass_alteration.Goals as goal

pub returns-then-height-lt-HEIGHTS : goal.returns-then-height-lt-HEIGHTS
returns-then-height-lt-HEIGHTS c = grind (arith, altered)

pub returns-else-height-lt-HEIGHTS : goal.returns-else-height-lt-HEIGHTS
returns-else-height-lt-HEIGHTS c = grind (arith, past_the_heights)
