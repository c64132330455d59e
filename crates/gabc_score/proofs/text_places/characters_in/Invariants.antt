use Rattle.std.proofs.Common.{◌≡◌, ◌+◌, ◌≤◌, length}
use Rattle.std.specs.List.{count_by}
use Rattle.gabc_score.specs.machine.PlaceByBytes.{begins_character}
use Rattle.gabc_score.proofs.text_places.characters_in.Given as goal

abbrev pub invariant-loop-rest : goal.invariant-loop-rest
invariant-loop-rest l = record {
  counted : l.n + count_by begins_character l.rest ≡ count_by begins_character l.bytes;
  few : l.n + length l.rest ≤ length l.bytes;
}

abbrev pub decreases-loop-rest : goal.decreases-loop-rest
decreases-loop-rest l = length l.rest
