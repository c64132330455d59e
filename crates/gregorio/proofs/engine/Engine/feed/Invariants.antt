use Rattle.std.proofs.Common.{length, take, ◌-◌, ◌<◌, ◌≤◌, ◌⊎◌}
use Rattle.gregorio.specs.declared.source_ending.SourceEnding.TheVariants.{Broken}
use Rattle.gregorio.specs.Engine.{IsPrompt, NothingWaits}
use Rattle.gregorio.specs.witness.Engine.{streams_left}
use Rattle.gregorio.specs.machine.Taking.{Takes}
use Rattle.gregorio.proofs.engine.Engine.feed.Given as goal

-- The bytes so far are taken, and before the first one nothing waits. Where something waits, the last of them brought it.
abbrev pub invariant-loop-count : goal.invariant-loop-count
invariant-loop-count l = record {
  within : l.count ≤ length l.piece;
  takes : Takes l.initial.self (take l.count l.piece) l.self;
  begun : (0 < l.count) ⊎ NothingWaits l.self;
  stops : ¬ (NothingWaits l.self) → IsPrompt l.initial.self.written.format (streams_left l.initial.self Broken (take (l.count - 1) l.piece));
}

abbrev pub decreases-loop-count : goal.decreases-loop-count
decreases-loop-count l = length l.piece - l.count
