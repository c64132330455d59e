-- The place after the bytes of a text.
use Rattle.std.specs.Prelude.{ℕ, ◌+◌, ◌==◌, ◌||◌, nat_lt, List, [], ◌∷◌, Bool, if◌then◌else◌}
use Rattle.gabc_places.specs.declared.place.Place.{Place}

-- a character begins with this byte of a text
abbrev pub begins_character : ℕ → Bool
begins_character b = nat_lt b 128 || nat_lt 191 b

-- The place after a byte of a text, if `p` is that after those before: after the bytes of a
-- character that is the place after it.
abbrev pub next_by_byte : Place → ℕ → Place
next_by_byte p b =
    if b == 10 then record { line = p.line + 1; column = 1 }
    else record { line = p.line; column = p.column + (if begins_character b then 1 else 0) }

-- the place after these bytes
abbrev pub place_by_bytes : Place → List ℕ → Place
place_by_bytes p [] = p
place_by_bytes p (b ∷ bs) = place_by_bytes (next_by_byte p b) bs
