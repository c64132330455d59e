use Rattle.std.proofs.Common.{◌≡◌, ◌+◌, take}
use Rattle.gabc_places.specs.Bytes.{bytes_in}
use Rattle.gabc_places.proofs.bytes.place_of_byte.Given as goal

abbrev pub invariant-loop-x : goal.invariant-loop-x
invariant-loop-x l = l.left + bytes_in (take l.x-index l.chars) ≡ l.byte
