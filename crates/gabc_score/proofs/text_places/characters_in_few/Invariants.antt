use Rattle.std.proofs.Common.{◌≡◌, ◌≤◌, take}
use Rattle.std.specs.List.{count_by}
use Rattle.gabc_score.specs.machine.PlaceByBytes.{begins_character}
use Rattle.gabc_score.proofs.text_places.characters_in_few.Given as goal

abbrev pub invariant-loop-byte : goal.invariant-loop-byte
invariant-loop-byte l = record {
  counted : l.n ≡ count_by begins_character (take l.byte-index l.bytes);
  few : l.n ≤ l.byte-index;
}
