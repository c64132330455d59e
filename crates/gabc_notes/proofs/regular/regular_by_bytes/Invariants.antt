use Rattle.std.proofs.Common.{◌≡◌, ◌≤◌, ◌-◌, length, false}
use Rattle.gabc_notes.specs.machine.ItemMachine.{raw_state}
use Rattle.gabc_notes.specs.machine.Regular.{reading_at}
use Rattle.gabc_notes.proofs.machine.RegularFronts.{IsReadTo}
use Rattle.gabc_notes.proofs.regular.regular_by_bytes.Given as goal

abbrev pub invariant-loop-read : goal.invariant-loop-read
invariant-loop-read l = record {
  within : l.read ≤ length l.bytes;
  outside : raw_state l.point.item ≡ false;
  read_to : IsReadTo l.bytes (reading_at l.point) l.read l.regular;
}

abbrev pub decreases-loop-read : goal.decreases-loop-read
decreases-loop-read l = length l.bytes - l.read
