use Rattle.std.proofs.Common.{◌-◌, ◌≤◌, length, take}
use Rattle.gabc_score.proofs.regular_syllables.GapsAreRead.{IsOpenComment}
use Rattle.gabc_score.proofs.regular.comment_len.Given as goal

abbrev pub invariant-loop-end : goal.invariant-loop-end
invariant-loop-end l = record {
  within : l.end ≤ length l.bytes;
  opened : IsOpenComment (take l.end l.bytes);
}

abbrev pub decreases-loop-end : goal.decreases-loop-end
decreases-loop-end l = length l.bytes - l.end
