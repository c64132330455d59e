use Rattle.gabc_notes.specs.Table.{gabc}
use Rattle.gabc_notes.proofs.machine.MachineReadsTable.{machine}
use Rattle.gabc_patterns.proofs.FirstItemByBytes.{ReadSoFar}
use Rattle.std.specs.Str.Iter.{chars_rest}
use Rattle.gabc_notes.proofs.items.item_read.Given as goal

abbrev pub invariant-loop-c : goal.invariant-loop-c
invariant-loop-c l = ReadSoFar gabc machine l.text l.yielded (chars_rest l.c-iterator) l.state l.read l.best
