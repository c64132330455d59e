use Rattle.std.proofs.Common.{◌≤◌}
use Rattle.call_rows.proofs.headers.push_all.Given as goal

abbrev pub invariant-loop-c : goal.invariant-loop-c
invariant-loop-c l = 2 ≤ l.room.limit
