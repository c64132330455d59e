use Rattle.std.proofs.Common.{◌-◌, length}
use Rattle.gabc_nabc.proofs.machine.RegularBytes.{IsReadByBytes}
use Rattle.gabc_nabc.proofs.regular.regular_by_bytes.Given as goal

abbrev pub invariant-loop-read : goal.invariant-loop-read
invariant-loop-read l = record {
  so_far : IsReadByBytes l.bytes l.state l.read l.regular;
}

abbrev pub decreases-loop-read : goal.decreases-loop-read
decreases-loop-read l = length l.bytes - l.read
