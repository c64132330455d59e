-- The place of a character is a function of the text before it.
use Rattle.std.specs.Prelude.{ℕ, ◌+◌, ◌-◌, ◌^◌, min, ◌==◌, List, [], ◌∷◌, ◌++◌, length, count_by, Bool, if◌then◌else◌}
use Rattle.std.specs.List.{after_last}
use Rattle.gabc_places.specs.declared.place.Place.{Place}
use Rattle.gabc_places.specs.declared.place.Char.{Char}

abbrev pub is_line_feed : ℕ → Bool
is_line_feed c = c == 10

-- the place after the text: its line is 1 plus the LFs of the text, its column 1 plus the
-- characters since the last of them
abbrev pub place_after : List ℕ → Place
place_after text = record { line = 1 + count_by is_line_feed text; column = 1 + length (after_last is_line_feed text) }

-- the place after a character that is at p
abbrev pub next_place : Place → ℕ → Place
next_place p c = if is_line_feed c then record { line = p.line + 1; column = 1 } else record { line = p.line; column = p.column + 1 }

-- the same, but a count that has reached its last value stays there
abbrev pub saturating_next_place : Place → ℕ → Place
saturating_next_place p c =
    if is_line_feed c then record { line = min (p.line + 1) (2 ^ 64 - 1); column = 1 } else record { line = p.line; column = min (p.column + 1) (2 ^ 64 - 1) }

-- the characters that follow this prefix, each with its place
abbrev pub placed_characters_after : List ℕ → List ℕ → List Char
placed_characters_after prefix [] = []
placed_characters_after prefix (c ∷ cs) = record { c = c; place = place_after prefix } ∷ placed_characters_after (prefix ++ c ∷ []) cs

-- the characters of a text with their places
abbrev pub placed_characters : List ℕ → List Char
placed_characters text = placed_characters_after [] text

-- the place after a text that begins at p
abbrev pub place_past : Place → List ℕ → Place
place_past p [] = p
place_past p (c ∷ cs) = place_past (next_place p c) cs

-- the characters of a text that begins at p, each with its place
abbrev pub placed_characters_from : Place → List ℕ → List Char
placed_characters_from p [] = []
placed_characters_from p (c ∷ cs) = record { c = c; place = p } ∷ placed_characters_from (next_place p c) cs
