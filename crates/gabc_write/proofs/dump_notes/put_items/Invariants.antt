use Rattle.std.proofs.Common.{◌≡◌, ◌++◌, List, [], length, reverse}
use Rattle.gabc_notes.specs.Items.{items_of, AreWithin}
use Rattle.gabc_notes.specs.declared.item.Item.{Item}
use Rattle.gabc_write.specs.DumpOfNotes.{in_force_at, lines_after}
use Rattle.gabc_write.proofs.ItemsLineByLine.{Stands}
use Rattle.gabc_write.proofs.dump_notes.put_items.Given as goal

-- the items before, the nearest first; with those to come, all lines will have been put
abbrev pub invariant-loop-item : goal.invariant-loop-item
invariant-loop-item g l =
    (before : List Item) × Stands l.kept before l.items l.place
    × (g.S.Put.taken l.out (lines_after l.initial.alterations l.kept before l.items) ≡ g.S.Put.taken l.initial.out (lines_after l.initial.alterations l.kept [] (items_of l.kept)))
    × (l.alterations ≡ in_force_at l.initial.alterations l.kept before)
    × (items_of l.kept ≡ reverse before ++ l.items)
    × AreWithin l.kept l.items

abbrev pub decreases-loop-item : goal.decreases-loop-item
decreases-loop-item g l = length l.items
