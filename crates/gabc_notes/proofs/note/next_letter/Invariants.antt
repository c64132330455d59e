use Rattle.std.proofs.Common.{◌≡◌, drop}
use Rattle.gabc_notes.specs.Notes.{letters}
use Rattle.gabc_notes.proofs.note.next_letter.Given as goal

abbrev pub invariant-loop-i : goal.invariant-loop-i
invariant-loop-i l = letters l.text ≡ letters (drop l.i l.text)
