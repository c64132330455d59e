use Rattle.std.proofs.Common.{◌≡◌, ◌-◌, map, take, length}
use Rattle.gabc_places.specs.BoundedList.{Fits, extended_by}
use Rattle.gabc_score.specs.declared.score_event.ScoreEvent.TheVariants as event
use Rattle.gabc_score.proofs.emit.give_found.Given as goal

abbrev pub invariant-loop-finding : goal.invariant-loop-finding
invariant-loop-finding l = record {
  emitted : l.out ≡ extended_by l.initial.out (map (λ o. event.Found o) (take l.finding-index l.found));
  room : Fits l.out (length l.found - l.finding-index);
}
