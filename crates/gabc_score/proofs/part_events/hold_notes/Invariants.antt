use Rattle.std.proofs.Common.{◌<◌, map, take, drop, length}
use Rattle.gabc_body.specs.Events.{note_event as event_of_notes}
use Rattle.gabc_score.specs.machine.HoldsEvents.{CanHold, HoldsEvents}
use Rattle.gabc_score.proofs.part_events.hold_notes.Given as goal

abbrev pub invariant-loop-event : goal.invariant-loop-event
invariant-loop-event l = record {
  done : HoldsEvents (map (event_of_notes l.line l.opened) (take l.event-index l.events)) l.initial.pair l.initial.found l.pair l.found;
  more : l.event-index < length l.events → CanHold (map (event_of_notes l.line l.opened) (drop l.event-index l.events)) l.pair l.found;
}
