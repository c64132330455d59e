use Rattle.std.proofs.Common.{◌≡◌, ◌≤◌, ◌+◌, suc, length}
use Rattle.gabc_tree.specs.NoteNodes.{through, last_to}
use Rattle.gabc_tree.proofs.note_nodes.extent_through.Given as goal

abbrev pub invariant-loop-left : goal.invariant-loop-left
invariant-loop-left l =
    (l.extent.items + length (through l.left l.items) ≡ suc (length (through l.fn.left l.later)))
    × (last_to l.extent.end (through l.left l.items) ≡ last_to l.end (through l.fn.left l.later))
    × (l.extent.items + length l.items ≤ suc (length l.later))

abbrev pub decreases-loop-left : goal.decreases-loop-left
decreases-loop-left l = length l.items
