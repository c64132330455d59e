-- The bytes of an input at which places are.
use Rattle.std.specs.Prelude.{ℕ, ◌≡◌, ◌+◌, List, [], ◌∷◌, ◌++◌, cond, take, true, Option, Some, None}
use Rattle.std.specs.List.{All}
use Rattle.std.specs.Char.{len_utf8}
use Rattle.gabc_places.specs.Place.{place_after, saturating_next_place}
use Rattle.gabc_places.specs.Text.{decoded_of, is_left_out, read_as, text_of_characters, utf8_prefix_of}
use Rattle.gabc_places.specs.declared.code.Fault.{Fault}
use Rattle.gabc_places.specs.declared.code.Finding.{Finding}
use Rattle.gabc_places.specs.declared.limits.Limits.{Limits}
use Rattle.gabc_places.specs.declared.place.Place.{Place}
use Rattle.gabc_headers.specs.Lines.{bytes_len}
use Rattle.gabc_body.specs.Score.{score_of}
use Rattle.gabc_tree.specs.NotKept.{is_before, start}
use Rattle.gabc_tree.specs.Tree.{ending_by}

-- The byte of the first of these characters that is shown and is not before p, or else their end.
-- They begin at that byte and at the place `here`, after the character `previous`.
abbrev pub byte_from : Place → ℕ → ℕ → Place → List ℕ → ℕ
byte_from p previous byte here [] = byte
byte_from p previous byte here (c ∷ cs) =
    cond (is_left_out (previous, c)) (byte_from p c (byte + len_utf8 c) here cs)
    (cond (is_before here p) (byte_from p c (byte + len_utf8 c) (saturating_next_place here (read_as c)) cs) byte)

-- the byte of a place, of an input with these characters
abbrev pub byte_in : List ℕ → Place → ℕ
byte_in characters p = byte_from p 0 0 start characters

-- the same of an input's bytes
abbrev pub byte_of : List ℕ → Place → ℕ
byte_of bytes p = byte_in (utf8_prefix_of bytes) p

-- ---- places of the text

-- p is the place of a character of an input's text, or its end, and has that byte: the characters
-- before the byte are read as the text before the place
pub record IsThere (bytes : List ℕ) (p : Place) : Type 0 where
  pub before : List ℕ
  pub after : List ℕ
  pub parts : utf8_prefix_of bytes ≡ before ++ after
  pub place_is : place_after (text_of_characters before) ≡ p
  pub byte_is : byte_of bytes p ≡ bytes_len before

abbrev pub IsThereIfSome : List ℕ → Option Fault → Type 0
IsThereIfSome bytes None = Unit {0}
IsThereIfSome bytes (Some fault) = IsThere bytes fault.place

-- Law: each finding of a score, and its fault, has its place at a byte of the input that is read,
-- or at its end.
pub record AllAreThere (limits : Limits) (bytes : List ℕ) : Type 0 where
  pub findings :
      let decoded = decoded_of limits true bytes in
      All (λ (f : Finding). IsThere (take limits.input bytes) f.place) (score_of limits (ending_by decoded.fault) decoded.text).findings
  pub fault : let decoded = decoded_of limits true bytes in IsThereIfSome (take limits.input bytes) (score_of limits (ending_by decoded.fault) decoded.text).fault
