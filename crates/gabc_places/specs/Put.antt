-- The takers of bytes: a room, which takes as many as fit, and a count of bytes.
use Rattle.std.specs.Prelude.{ℕ, ◌+◌, ◌-◌, ◌^◌, min, List, length, take}
use Rattle.gabc_places.specs.BoundedList.{BoundedList, room_left, extended_by}

-- r with these bytes at the end: as many as fit, from the first on
abbrev pub filled_with : BoundedList ℕ → List ℕ → BoundedList ℕ
filled_with r bytes = extended_by r (take (room_left r) bytes)

-- n, and with it the number of these bytes; it saturates at the last value of a `usize`
abbrev pub counted_with : ℕ → List ℕ → ℕ
counted_with n bytes = n + min (length bytes) (2 ^ 64 - 1 - n)
