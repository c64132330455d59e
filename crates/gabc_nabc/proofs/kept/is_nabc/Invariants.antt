use Rattle.std.proofs.Common.{◌≡◌, ◌++◌, IsUtf8}
use Rattle.std.specs.Str.{chars}
use Rattle.std.specs.Str.Iter.{chars_rest}
use Rattle.gabc_nabc.specs.Table.{nabc}
use Rattle.gabc_nabc.proofs.machine.MachineReadsTable.{machine}
use Rattle.gabc_patterns.proofs.StatesAfterTexts.{Stands}
use Rattle.gabc_nabc.proofs.kept.is_nabc.Given as goal

abbrev pub invariant-loop-c : goal.invariant-loop-c
invariant-loop-c l = record {
  stands : Stands nabc machine l.state l.yielded;
  whole : l.yielded ++ chars (chars_rest l.c-iterator) ≡ chars l.kept;
  utf8 : IsUtf8 (chars_rest l.c-iterator);
}
