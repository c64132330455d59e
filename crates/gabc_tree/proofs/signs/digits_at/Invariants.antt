use Rattle.std.proofs.Common.{◌≡◌, ◌++◌, take, drop}
use Rattle.gabc_notes.specs.Notes.{digits_of}
use Rattle.gabc_tree.proofs.signs.digits_at.Given as goal

abbrev pub invariant-loop-i : goal.invariant-loop-i
invariant-loop-i l = digits_of l.text ≡ take l.i l.text ++ digits_of (drop l.i l.text)
