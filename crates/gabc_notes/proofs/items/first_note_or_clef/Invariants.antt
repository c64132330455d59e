use Rattle.std.proofs.Common.{◌≡◌}
use Rattle.gabc_notes.specs.FirstNoteOrClef.{first_note_or_clef}
use Rattle.gabc_notes.specs.Items.{items_of}
use Rattle.gabc_notes.proofs.items.first_note_or_clef.Given as goal

-- none of those before is one
abbrev pub invariant-loop-item : goal.invariant-loop-item
invariant-loop-item l = first_note_or_clef (items_of l.kept) ≡ first_note_or_clef l.item-iterator
