use Rattle.std.proofs.Common.{◌≡◌, ◌+◌, drop}
use Rattle.std.specs.List.{prefix_len}
use Rattle.gabc_tree.specs.NabcNodes.{is_modifier}
use Rattle.gabc_tree.proofs.nabc_nodes.modifiers_len.Given as goal

abbrev pub invariant-loop-i : goal.invariant-loop-i
invariant-loop-i l = prefix_len is_modifier l.text ≡ l.i + prefix_len is_modifier (drop l.i l.text)
