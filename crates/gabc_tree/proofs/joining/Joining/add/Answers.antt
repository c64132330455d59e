use Rattle.std.proofs.Common.{arith}
use Rattle.gabc_tree.proofs.joining.Joining.add.Goals as goal
use Rattle.gabc_tree.proofs.not_kept_nodes.Joins.{stays_joined}

pub returns : goal.returns
returns c = grind (arith, stays_joined)
