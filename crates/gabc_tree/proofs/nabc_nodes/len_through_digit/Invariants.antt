use Rattle.std.proofs.Common.{◌≡◌, ◌+◌, drop}
use Rattle.gabc_tree.specs.NabcNodes.{through_digit}
use Rattle.gabc_tree.proofs.nabc_nodes.len_through_digit.Given as goal

abbrev pub invariant-loop-i : goal.invariant-loop-i
invariant-loop-i l = through_digit l.text ≡ l.i + through_digit (drop l.i l.text)
