-- The longest part that begins a text, by its bytes.
use Rattle.std.specs.Prelude.{ℕ, List, Bool, Option, Some, None, length, take, encode_utf8_all}
use Rattle.std.specs.Str.{chars}
use Rattle.gabc_patterns.specs.Function.{longest_item}
use Rattle.gabc_nabc.specs.Table.{nabc}

-- a part of the first n characters of a text, with its number of bytes
abbrev pub in_bytes : List ℕ → Option (Bool × ℕ) → Option (Bool × ℕ)
in_bytes t None = None
in_bytes t (Some i) = Some (i.0, length (encode_utf8_all (take i.1 t)))

-- the longest part that begins the text: whether it is a space, and its number of bytes
abbrev pub first_part_of : List ℕ → Option (Bool × ℕ)
first_part_of bytes = in_bytes (chars bytes) (longest_item nabc (chars bytes))
