use Rattle.std.proofs.Common.{◌≡◌, ◌++◌}
use Rattle.gabc_notes.specs.Items.{items_of}
use Rattle.gabc_notes.proofs.items.items_whole.Given as goal

-- those that are gathered, and those to come
abbrev pub invariant-loop-item : goal.invariant-loop-item
invariant-loop-item l = items_of l.kept ≡ l.items ++ l.item-iterator
