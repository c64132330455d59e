use Rattle.std.proofs.Common.{◌≡◌, ℕ, ◌+◌, ◌<◌, List, ◌∷◌, length, [], slice_index_or, drop, sym, ap, ◌∙◌, subst, arith}
use Rattle.std.proofs.lemmas.List.{at_drop_more}
use Rattle.gabc_score.specs.declared.score_event.ScoreEvent.{ScoreEvent}
use Rattle.gabc_score.specs.witness.ScoreStage.{ScoreStageState}
use Rattle.gabc_body.specs.ScoreEvents.{ScoreOutput}
use Rattle.gabc_score.specs.declared.score_event.ScoreEvent.TheVariants.{Found}
use Rattle.gabc_places.specs.declared.code.Code.TheVariants.{E1}
use Rattle.gabc_places.specs.declared.limits.Limits.{Limits}
use Rattle.gregorio.specs.machine.OutputsOfARun.{one_then}
use Rattle.gregorio.specs.machine.RunWriter.{RunWriterState, HasRoomFor, IsInRoom, past_outputs}
use Rattle.gregorio.specs.machine.ScoreWriter.{output_of_event, outputs_of_events}
use Rattle.gregorio.proofs.WritingStaysInRoom.{first_in_room}
use Rattle.gregorio.proofs.score_writer.write_events.Goals as goal

next_emitted : (score : ScoreStageState) (events : List ScoreEvent) (i : ℕ) (d : ScoreEvent) → i < length events → outputs_of_events score (drop i events) ≡ output_of_event score (slice_index_or events i d) ∷ outputs_of_events score (drop (i + 1) events)
next_emitted score events i d h = at_drop_more (outputs_of_events score) events i d h

-- any event stands after the last
abbrev no_event : ScoreEvent
no_event = Found record { place = record { line = 0; column = 0 }; code = E1 }

next_has_room : (limits : Limits) (old new : RunWriterState) (o : ScoreOutput) (rest : List ScoreOutput) → new.out.limit ≡ old.out.limit → new.messages.limit ≡ old.messages.limit
    → IsInRoom limits old.messages.limit old.out.limit new (o ∷ rest) → HasRoomFor limits new (o ∷ [])
next_has_room limits old new o rest out messages room = grind (arith, first_in_room)

pub write_event-requires : goal.write_event-requires
write_event-requires c =
    let score = c.args.score.now in
    let l = c.loop-event in
    let w = c.args.writer.now in
    let rest = outputs_of_events score (drop (l.event-index + 1) c.args.events.now) in
    let room = l.invariant.1 w.messages.limit w.out.limit c.requires in
    let next = next_emitted score c.args.events.now l.event-index no_event c.loop-event-test.true in
    next_has_room score.limits w l.writer (output_of_event score (slice_index_or c.args.events.now l.event-index no_event)) rest
    (ap (λ (v : RunWriterState). v.out.limit) l.invariant.0) (ap (λ (v : RunWriterState). v.messages.limit) l.invariant.0)
    (subst (IsInRoom score.limits w.messages.limit w.out.limit l.writer) next room)

pub loop-event-preserved : goal.loop-event-preserved
loop-event-preserved c =
    let score = c.args.score.now in
    let l = c.loop-event in
    let rest = outputs_of_events score (drop (l.event-index + 1) c.args.events.now) in
    let next = next_emitted score c.args.events.now l.event-index no_event c.loop-event-test.true in (
      ap (λ (w : RunWriterState). past_outputs w rest) c.write_event.ensures.writes
          ∙ (one_then l.writer (output_of_event score (slice_index_or c.args.events.now l.event-index no_event)) rest ∙ (ap (past_outputs l.writer) (sym next) ∙ l.invariant.0)),
      λ lines texts h. c.write_event.ensures.room lines texts rest (subst (IsInRoom score.limits lines texts l.writer) next (l.invariant.1 lines texts h)),
    )
