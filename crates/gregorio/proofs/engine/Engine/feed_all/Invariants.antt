use Rattle.std.proofs.Common.{◌≡◌, ℕ, List, ◌++◌, ◌-◌, ◌≤◌, length, drop, false}
use Rattle.gregorio.specs.declared.source_ending.SourceEnding.{SourceEnding}
use Rattle.gregorio.specs.Engine.{NothingWaits, StillRuns, is_running}
use Rattle.gregorio.specs.Streams.{TakeTheSame}
use Rattle.gregorio.specs.witness.Engine.{streams_left}
use Rattle.gregorio.proofs.engine.Engine.feed_all.Given as goal

-- with what is left, they will have taken all of it
abbrev pub invariant-loop-count : goal.invariant-loop-count
invariant-loop-count g l = record {
  within : l.count ≤ length l.piece;
  waits : NothingWaits l.self;
  job : StillRuns l.initial.self l.self;
  over : is_running l.initial.self ≡ false → l.self ≡ l.initial.self;
  hasher : l.self.heads.hasher ≡ l.initial.self.heads.hasher;
  put : (ending : SourceEnding) (more : List ℕ) → TakeTheSame g.O.Put.taken g.M.Put.taken l.initial.out l.initial.messages (streams_left l.initial.self ending (l.piece ++ more)) l.out l.messages (streams_left l.self ending (drop l.count l.piece ++ more));
}

abbrev pub decreases-loop-count : goal.decreases-loop-count
decreases-loop-count g l = length l.piece - l.count
