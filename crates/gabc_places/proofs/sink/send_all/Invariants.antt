use Rattle.std.proofs.Common.{◌-◌, ◌≤◌, length, take}
use Rattle.std.specs.Io.KnownBytes.{Appends}
use Rattle.gabc_places.specs.Calls.{GoesOn}
use Rattle.gabc_places.proofs.sink.send_all.Given as goal

abbrev pub invariant-loop-sent : goal.invariant-loop-sent
invariant-loop-sent g l = record {
  within : l.sent ≤ length l.bytes;
  prefix : Appends (g.S.Sink.written l.initial.sink) (g.S.Sink.written l.sink) (take l.sent l.bytes);
  goes_on : GoesOn (g.S.Sink.calls l.initial.sink) (g.S.Sink.calls l.sink);
}

abbrev pub decreases-loop-sent : goal.decreases-loop-sent
decreases-loop-sent g l = length l.bytes - l.sent
