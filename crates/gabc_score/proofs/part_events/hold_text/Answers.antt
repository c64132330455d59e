use Rattle.gabc_body.specs.declared.events.BodyEvent.TheVariants.{Text as of_text}
use Rattle.gabc_score.proofs.building.EventsAreGatheredInTurn.{holds_next, holds_on}
use Rattle.gabc_score.proofs.part_events.hold_text.Goals as goal

pub hold_in_text-requires : goal.hold_in_text-requires
hold_in_text-requires c = let t = c.loop-event-test.true in holds_next (λ o. of_text o) c.args.events.now c.loop-event.event-index _ t (c.loop-event.invariant.more t)

pub loop-event-preserved : goal.loop-event-preserved
loop-event-preserved c =
    let i = c.loop-event.invariant in
    let t = c.loop-event-test.true in
    let h = holds_on (λ o. of_text o) c.args.events.now c.loop-event.event-index _ t i.done (i.more t) c.hold_in_text.ensures in
    record { done = h.0; more = h.1 }
