use Rattle.std.proofs.Common.{◌≡◌, ℕ, List, ◌++◌, ◌-◌, ◌≤◌, length, drop}
use Rattle.gregorio.specs.declared.source_ending.SourceEnding.{SourceEnding}
use Rattle.gregorio.specs.Engine.{NothingWaits, StillRuns}
use Rattle.gregorio.specs.Streams.{after_bytes}
use Rattle.gregorio.specs.witness.Engine.{streams_left}
use Rattle.gregorio_c.proofs.steps.feed_piece.Given as goal

-- what was written at the bytes so far is gathered
abbrev pub invariant-loop-texts : goal.invariant-loop-texts
invariant-loop-texts l = record {
  within : l.count ≤ length l.piece;
  waits : NothingWaits l.engine;
  job : StillRuns l.fn.engine l.engine;
  gathers : (ending : SourceEnding) (more : List ℕ) → streams_left l.fn.engine ending (l.piece ++ more)
      ≡ after_bytes l.texts.output.items l.texts.messages.items (streams_left l.engine ending (drop l.count l.piece ++ more));
}

abbrev pub decreases-loop-texts : goal.decreases-loop-texts
decreases-loop-texts l = length l.piece - l.count
