use Rattle.std.proofs.Common.{◌≡◌, ◌++◌, drop, Bool, List}
use Rattle.gabc_headers.specs.declared.head_event.HeadEvent.{HeadEvent as HeadItem}
use Rattle.gregorio.specs.machine.InStep.{TakesEvents}
use Rattle.gregorio.specs.machine.ScoreWriter.{FitsEvents, ScoreWriterState}
use Rattle.gregorio.proofs.engine.pass_on.Given as goal

-- with what is left, it will have taken all of it
abbrev pub invariant-loop-event : goal.invariant-loop-event
invariant-loop-event l =
    let left = drop l.event-index l.from_heads in
    record {
      takes : (new : ScoreWriterState) → TakesEvents l.writer left l.heads.book new → TakesEvents l.initial.writer l.from_heads l.heads.book new;
      room : (ends : Bool) (events : List HeadItem) → FitsEvents l.initial.writer ends (l.from_heads ++ events) → FitsEvents l.writer ends (left ++ events);
      limits : l.writer.score.limits ≡ l.initial.writer.score.limits;
    }
