use Rattle.std.proofs.Common.{◌<◌, map, take, drop, length}
use Rattle.gabc_body.specs.declared.events.BodyEvent.TheVariants.{Text as of_text}
use Rattle.gabc_score.specs.machine.HoldsEvents.{CanHold, HoldsEvents}
use Rattle.gabc_score.proofs.part_events.hold_text.Given as goal

abbrev pub invariant-loop-event : goal.invariant-loop-event
invariant-loop-event l = record {
  done : HoldsEvents (map (λ o. of_text o) (take l.event-index l.events)) l.initial.pair l.initial.found l.pair l.found;
  more : l.event-index < length l.events → CanHold (map (λ o. of_text o) (drop l.event-index l.events)) l.pair l.found;
}
