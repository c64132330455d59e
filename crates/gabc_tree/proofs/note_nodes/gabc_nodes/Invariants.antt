use Rattle.std.proofs.Common.{◌≡◌, ◌≤◌, ◌++◌, length, map}
use Rattle.gabc_notes.specs.Items.{AreWithin}
use Rattle.gabc_neumes.specs.InForce.{step_of, steps_of, passed}
use Rattle.gabc_tree.specs.NoteNodes.{item_nodes, gabc_nodes}
use Rattle.gabc_tree.specs.machine.NoteNodes.{grouped}
use Rattle.gabc_tree.proofs.note_nodes.gabc_nodes.Given as goal

-- with the nodes of the items to come, all nodes will have been added
abbrev pub invariant-loop-item : goal.invariant-loop-item
invariant-loop-item l =
    (l.out.items ++ grouped l.base l.kept l.place.left l.items (item_nodes l.base l.kept l.place.inside l.alterations l.items)
    ≡ l.initial.out.items ++ gabc_nodes l.base l.initial.alterations l.kept)
    × (passed l.alterations (map (step_of l.kept) l.items) ≡ passed l.initial.alterations (steps_of l.kept))
    × (length l.items ≤ length l.kept)
    × AreWithin l.kept l.items

abbrev pub decreases-loop-item : goal.decreases-loop-item
decreases-loop-item l = length l.items
