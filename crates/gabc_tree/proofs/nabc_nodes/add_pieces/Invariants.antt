use Rattle.std.proofs.Common.{◌≡◌, ◌≤◌, ◌-◌, ◌++◌, length, drop}
use Rattle.gabc_tree.specs.NabcNodes.{pieces_from, pieces_of}
use Rattle.gabc_tree.proofs.nabc_nodes.add_pieces.Given as goal

abbrev pub invariant-loop-at : goal.invariant-loop-at
invariant-loop-at l =
    (l.at ≤ length l.text)
    × (l.out.items ++ pieces_from l.base 0 l.at (drop l.at l.text) ≡ l.initial.out.items ++ pieces_of l.base l.text)

abbrev pub decreases-loop-at : goal.decreases-loop-at
decreases-loop-at l = length l.text - l.at
