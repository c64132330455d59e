use Rattle.std.proofs.Common.{◌≡◌, ℕ, drop}
use Rattle.gregorio.specs.machine.RunWriter.{IsInRoom, past_outputs}
use Rattle.gregorio.specs.machine.ScoreWriter.{outputs_of_events}
use Rattle.gregorio.proofs.score_writer.write_events.Given as goal

-- with what is left, it will have written all, and there is room for it
abbrev pub invariant-loop-event : goal.invariant-loop-event
invariant-loop-event l =
    (past_outputs l.writer (outputs_of_events l.score (drop l.event-index l.events)) ≡ past_outputs l.initial.writer (outputs_of_events l.score l.events))
    × ((lines texts : ℕ) → IsInRoom l.score.limits lines texts l.initial.writer (outputs_of_events l.score l.events) → IsInRoom l.score.limits lines texts l.writer (outputs_of_events l.score (drop l.event-index l.events)))
