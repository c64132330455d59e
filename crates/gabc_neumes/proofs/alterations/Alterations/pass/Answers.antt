use Rattle.std.proofs.Common.{arith}
use Rattle.gabc_neumes.proofs.StepsArePassed.{item_changes_nothing}
use Rattle.gabc_neumes.proofs.alterations.Alterations.pass.Goals as goal

pub returns-in_default : goal.returns-in_default
returns-in_default c = grind (arith, item_changes_nothing)
