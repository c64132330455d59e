-- The law of every text of a picture.
use Rattle.std.specs.Prelude.{ℕ, Bool, ◌≡◌, true, not, ◌||◌, ◌==◌, nat_lt, List}
use Rattle.std.specs.List.{list_all}
use Rattle.gabc_svg.specs.Escape.{escaped}

-- whether a byte may be in a text and in the value of an attribute: it is not below the blank, and
-- no `<`, no `>` and no `"`
abbrev pub is_data : ℕ → Bool
is_data b = not (nat_lt b 32 || b == 60 || b == 62 || b == 34)

-- whatever a text is, once escaped it has only such bytes, and so cannot leave its place
abbrev pub EscapedStays : Type 0
EscapedStays = (text : List ℕ) → list_all is_data (escaped text) ≡ true
