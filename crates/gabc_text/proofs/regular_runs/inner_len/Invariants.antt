use Rattle.std.proofs.Common.{length, ◌-◌, ◌≤◌, take}
use Rattle.gabc_text.specs.machine.RegularBytes.{IsInner}
use Rattle.gabc_text.proofs.regular_runs.inner_len.Given as goal

abbrev pub invariant-loop-end : goal.invariant-loop-end
invariant-loop-end l = record {
  within : l.end ≤ length l.bytes;
  inner : IsInner l.stop (take l.end l.bytes);
}

abbrev pub decreases-loop-end : goal.decreases-loop-end
decreases-loop-end l = length l.bytes - l.end
