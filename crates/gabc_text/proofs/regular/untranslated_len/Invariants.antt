use Rattle.std.proofs.Common.{length, ◌-◌, ◌≤◌, take}
use Rattle.gabc_text.specs.RegularText.{mark_at}
use Rattle.gabc_text.specs.machine.RegularBytes.{IsBegun, mark_length}
use Rattle.gabc_text.proofs.regular.untranslated_len.Given as goal

abbrev pub invariant-loop-end : goal.invariant-loop-end
invariant-loop-end l = record {
  within : l.end ≤ length l.bytes;
  marked : mark_length (mark_at l.bytes) ≤ l.end;
  begun : IsBegun (mark_at l.bytes) l.before (take l.end l.bytes);
}

abbrev pub decreases-loop-end : goal.decreases-loop-end
decreases-loop-end l = length l.bytes - l.end
