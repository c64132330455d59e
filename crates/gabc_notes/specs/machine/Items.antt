-- The longest item that begins a text, by its bytes.
use Rattle.std.specs.Prelude.{◌<◌, ◌≤◌, ◌||◌, ◌&&◌, nat_le, ℕ, Bool, List, length, take, drop}
use Rattle.std.specs.Str.{chars, IsUtf8}
use Rattle.gabc_patterns.specs.LongestItems.{Longest, IsItem, IsItemOf}
use Rattle.gabc_notes.specs.Table.{gabc}
use Rattle.gabc_notes.specs.declared.item.ItemKind.{ItemKind}

-- The longest item that begins the text is of that kind and has that many bytes.
pub record IsFirstItem (bytes : List ℕ) (kind : ItemKind) (len : ℕ) : Type 0 where
  pub some : 0 < len
  pub within : len ≤ length bytes
  pub utf8 : IsUtf8 (drop len bytes)
  pub item : IsItemOf gabc kind (chars (take len bytes))
  pub longest : Longest (IsItem gabc) (chars (take len bytes)) (chars (drop len bytes))

-- a letter from a to p: each note and each clef has one
abbrev pub is_from_a_to_p : ℕ → Bool
is_from_a_to_p c = nat_le 97 c && nat_le c 112 || nat_le 65 c && nat_le c 80
