use Rattle.std.proofs.Common.{◌≡◌, ◌-◌, map, take, length}
use Rattle.gabc_places.specs.BoundedList.{Fits, extended_by}
use Rattle.gabc_body.specs.declared.events.BodyEvent.TheVariants.{Text as of_text}
use Rattle.gabc_score.proofs.part_events.emit_text.Given as goal

abbrev pub invariant-loop-item : goal.invariant-loop-item
invariant-loop-item l = record {
  emitted : l.out ≡ extended_by l.initial.out (map (λ o. of_text o) (take l.item-index l.events));
  room : Fits l.out (length l.events - l.item-index);
}
