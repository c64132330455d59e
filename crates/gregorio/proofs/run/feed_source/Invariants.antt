use Rattle.std.proofs.Common.{◌≡◌, ◌-◌, ◌+◌, ◌≤◌}
use Rattle.gregorio.specs.Engine.{NothingWaits}
use Rattle.gregorio.specs.Run.{used}
use Rattle.gregorio.specs.machine.Compile.{IsFedFrom}
use Rattle.gregorio.proofs.run.feed_source.Given as goal

abbrev pub invariant-loop-taken : goal.invariant-loop-taken
invariant-loop-taken g l = record {
  within : l.taken ≤ l.most;
  limit : l.most ≡ l.limit + 1;
  waits : NothingWaits l.engine;
  fed : IsFedFrom (used g.S.Source.remaining g.S.Source.calls l.initial.source l.source) (used g.O.Sink.written g.O.Sink.calls l.initial.out l.out) (used g.M.Sink.written g.M.Sink.calls l.initial.messages l.messages) l.initial.engine l.engine l.taken;
}

abbrev pub decreases-loop-taken : goal.decreases-loop-taken
decreases-loop-taken g l = l.most - l.taken
