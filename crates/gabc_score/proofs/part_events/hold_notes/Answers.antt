use Rattle.gabc_body.specs.Events.{note_event as event_of_notes}
use Rattle.gabc_score.proofs.building.EventsAreGatheredInTurn.{holds_next, holds_on}
use Rattle.gabc_score.proofs.part_events.hold_notes.Goals as goal

pub hold_in_notes-requires : goal.hold_in_notes-requires
hold_in_notes-requires c = let t = c.loop-event-test.true in holds_next (event_of_notes c.args.line c.args.opened) c.args.events.now c.loop-event.event-index _ t (c.loop-event.invariant.more t)

pub loop-event-preserved : goal.loop-event-preserved
loop-event-preserved c =
    let i = c.loop-event.invariant in
    let t = c.loop-event-test.true in
    let h = holds_on (event_of_notes c.args.line c.args.opened) c.args.events.now c.loop-event.event-index _ t i.done (i.more t) c.hold_in_notes.ensures in
    record { done = h.0; more = h.1 }
