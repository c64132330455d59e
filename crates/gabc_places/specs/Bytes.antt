-- The bytes of characters that have places.
use Rattle.std.specs.Prelude.{◌≡◌, ℕ, ◌+◌, ◌<◌, ◌≤◌, List, ◌∷◌, ◌++◌, sum_by}
use Rattle.std.specs.Char.{len_utf8}
use Rattle.gabc_places.specs.declared.place.Char.{Char}
use Rattle.gabc_places.specs.declared.place.Place.{Place}

-- the number of bytes of these characters in UTF-8
abbrev pub bytes_in : List Char → ℕ
bytes_in chars = sum_by (λ (x : Char). len_utf8 x.c) chars

-- the byte with this index, from 0, belongs to the character at this place
pub record IsByteAt (chars : List Char) (byte : ℕ) (place : Place) : Type 0 where
  pub before : List Char
  pub here : Char
  pub after : List Char
  pub chars_are : chars ≡ before ++ here ∷ after
  pub from : bytes_in before ≤ byte
  pub to : byte < bytes_in before + len_utf8 here.c
  pub place_is : place ≡ here.place
