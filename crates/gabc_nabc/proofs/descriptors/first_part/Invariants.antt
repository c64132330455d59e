use Rattle.gabc_nabc.specs.Table.{nabc}
use Rattle.gabc_nabc.proofs.machine.MachineReadsTable.{machine}
use Rattle.gabc_patterns.proofs.FirstItemByBytes.{ReadSoFar}
use Rattle.std.specs.Str.Iter.{chars_rest}
use Rattle.gabc_nabc.proofs.descriptors.first_part.Given as goal

abbrev pub invariant-loop-c : goal.invariant-loop-c
invariant-loop-c l = ReadSoFar nabc machine l.text l.yielded (chars_rest l.c-iterator) l.state l.read l.best
