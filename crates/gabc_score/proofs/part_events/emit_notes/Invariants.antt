use Rattle.std.proofs.Common.{◌≡◌, ◌-◌, map, take, length}
use Rattle.gabc_places.specs.BoundedList.{Fits, extended_by}
use Rattle.gabc_body.specs.Events.{note_event as event_of_notes}
use Rattle.gabc_score.proofs.part_events.emit_notes.Given as goal

abbrev pub invariant-loop-item : goal.invariant-loop-item
invariant-loop-item l = record {
  emitted : l.out ≡ extended_by l.initial.out (map (event_of_notes l.fn.line l.fn.opened) (take l.item-index l.events));
  room : Fits l.out (length l.events - l.item-index);
}
