use Rattle.std.proofs.Common.{◌≡◌, ◌++◌, List}
use Rattle.gabc_places.specs.BoundedList.{extended_by}
use Rattle.gabc_notes.specs.Items.{items_of}
use Rattle.gabc_notes.specs.declared.item.Item.{Item}
use Rattle.gabc_notes.proofs.items.items_into.Given as goal

-- those that are added, and those to come
abbrev pub invariant-loop-item : goal.invariant-loop-item
invariant-loop-item l = (items : List Item) × (items_of l.kept ≡ items ++ l.item-iterator) × (l.out ≡ extended_by l.initial.out items)
