-- The characters that a text of an input may have, and the bytes of such a text.
use Rattle.std.specs.Prelude.{◌≢◌, ℕ, List}
use Rattle.std.specs.Char.{IsScalar}
use Rattle.std.specs.List.{All}
use Rattle.std.specs.Str.{IsUtf8, chars}

-- no CR and no U+FEFF
abbrev pub IsPlain : ℕ → Type 0
IsPlain c = (c ≢ 13) × (c ≢ 0xFEFF)

-- a character that a text of an input may have
pub record IsTextCharacter (c : ℕ) : Type 0 where
  pub scalar : IsScalar c
  pub plain : IsPlain c

-- the bytes are those of a text of an input
pub record IsText (bytes : List ℕ) : Type 0 where
  pub utf8 : IsUtf8 bytes
  pub plain : All IsPlain (chars bytes)
