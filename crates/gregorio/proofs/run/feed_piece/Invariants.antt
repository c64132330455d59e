use Rattle.std.proofs.Common.{◌-◌, ◌≤◌, length, take}
use Rattle.gregorio.specs.Engine.{NothingWaits}
use Rattle.gregorio.specs.Run.{used}
use Rattle.gregorio.specs.machine.Compile.{IsFed}
use Rattle.gregorio.proofs.run.feed_piece.Given as goal

abbrev pub invariant-loop-count : goal.invariant-loop-count
invariant-loop-count g l = record {
  within : l.count ≤ length l.piece;
  waits : NothingWaits l.engine;
  fed : IsFed (used g.O.Sink.written g.O.Sink.calls l.initial.out l.out) (used g.M.Sink.written g.M.Sink.calls l.initial.messages l.messages) l.initial.engine l.engine (take l.count l.piece);
}

abbrev pub decreases-loop-count : goal.decreases-loop-count
decreases-loop-count g l = length l.piece - l.count
