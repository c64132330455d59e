use Rattle.std.proofs.Common.{◌≡◌, ◌+◌, ◌≤◌, length}
use Rattle.gabc_score.specs.machine.PlaceByBytes.{place_by_bytes}
use Rattle.gabc_score.proofs.text_places.place_past.Given as goal

abbrev pub invariant-loop-end : goal.invariant-loop-end
invariant-loop-end l = record {
  past : place_by_bytes l.start l.rest ≡ place_by_bytes l.fn.at l.text;
  line : l.start.line + length l.rest ≤ l.fn.at.line + length l.text;
  column : l.start.column + length l.rest ≤ l.fn.at.column + length l.text;
}

abbrev pub decreases-loop-end : goal.decreases-loop-end
decreases-loop-end l = length l.rest
