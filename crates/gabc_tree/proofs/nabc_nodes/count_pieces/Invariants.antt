use Rattle.std.proofs.Common.{◌≡◌, ◌≤◌, ◌+◌, ◌-◌, ℕ, length, drop}
use Rattle.gabc_tree.specs.NabcNodes.{pieces_from, pieces_of}
use Rattle.gabc_tree.proofs.nabc_nodes.count_pieces.Given as goal

abbrev pub invariant-loop-at : goal.invariant-loop-at
invariant-loop-at l =
    (l.at ≤ length l.text) × (l.count ≤ l.at)
    × ((base : ℕ) → l.count + length (pieces_from base 0 l.at (drop l.at l.text)) ≡ length (pieces_of base l.text))

abbrev pub decreases-loop-at : goal.decreases-loop-at
decreases-loop-at l = length l.text - l.at
