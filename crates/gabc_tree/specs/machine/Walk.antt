-- A walk over a text, to the bytes of its places.
use Rattle.std.specs.Prelude.{ℕ, ◌≡◌, ◌+◌, ◌≤◌, ◌<◌, ◌^◌, List, length, Bool, false, cond}
use Rattle.std.specs.Str.{IsUtf8, chars}
use Rattle.gabc_places.specs.Place.{saturating_next_place}
use Rattle.gabc_places.specs.Text.{read_as}
use Rattle.gabc_places.specs.declared.place.Place.{Place}
use Rattle.gabc_tree.specs.InputPlaces.{byte_from, byte_in}
use Rattle.gabc_tree.specs.NotKept.{is_before, start}
use Rattle.gabc_tree.specs.declared.place_reader.Walk.{Walk}

-- it is at the beginning of the text
pub record IsFresh (text : List ℕ) (w : Walk) : Type 0 where
  pub rest : w.rest.now ≡ text
  pub byte : w.byte ≡ 0
  pub previous : w.previous ≡ 0
  pub here : w.here ≡ start

-- the place after a character at that place: the same if it is left out
abbrev pub here_past : Place → ℕ → Bool → Place
here_past here c left_out = cond left_out here (saturating_next_place here (read_as c))

-- the byte of a place, from there on
abbrev pub byte_by : Walk → Place → ℕ
byte_by w p = byte_from p w.previous w.byte w.here (chars w.rest.now)

-- no number is too large
pub record IsWithin (w : Walk) : Type 0 where
  pub utf8 : IsUtf8 w.rest.now
  pub short : w.byte + length w.rest.now < 2 ^ 32
  pub line : w.here.line ≤ w.byte + 1
  pub column : w.here.column ≤ w.byte + 1

-- on the way to p, from `old` to `new`, the byte of p stays, and so do those of all places that are
-- not passed
pub record GoesPast (old new : Walk) (p : Place) : Type 0 where
  pub later : (q : Place) → is_before q new.here ≡ false → is_before q old.here ≡ false
  pub same : (q : Place) → is_before q new.here ≡ false → byte_by old q ≡ byte_by new q
  pub wanted : byte_by old p ≡ byte_by new p

-- places that are not passed are found as from the beginning of the text
pub record IsOn (text : List ℕ) (w : Walk) : Type 0 where
  pub within : IsWithin w
  pub short : length text < 2 ^ 32
  pub found : (q : Place) → is_before q w.here ≡ false → byte_by w q ≡ byte_in (chars text) q
