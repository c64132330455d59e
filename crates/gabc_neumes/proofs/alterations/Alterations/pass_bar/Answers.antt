use Rattle.std.proofs.Common.{arith}
use Rattle.gabc_neumes.proofs.StepsArePassed.{bar_ends_all, virgula_changes_nothing}
use Rattle.gabc_neumes.proofs.alterations.Alterations.pass_bar.Goals as goal

pub returns-else-not-is_virgula : goal.returns-else-not-is_virgula
returns-else-not-is_virgula c = grind (arith, virgula_changes_nothing)

pub returns-then-not-is_virgula : goal.returns-then-not-is_virgula
returns-then-not-is_virgula c = grind (arith, bar_ends_all)
