use Rattle.std.proofs.Common.{◌<◌, ◌≢◌, slice_index, length, ◌-◌, ◌≤◌, take}
use Rattle.gabc_text.specs.machine.RegularBytes.{IsRun}
use Rattle.gabc_text.proofs.regular_runs.letters_len.Given as goal

abbrev pub invariant-loop-end : goal.invariant-loop-end
invariant-loop-end l = record {
  within : l.end ≤ length l.bytes;
  run : IsRun (take l.end l.bytes);
  no_tag : 0 < l.end → slice_index l.bytes 0 ≢ 60;
}

abbrev pub decreases-loop-end : goal.decreases-loop-end
decreases-loop-end l = length l.bytes - l.end
