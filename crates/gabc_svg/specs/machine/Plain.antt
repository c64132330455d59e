-- Characters that escaping leaves as they are.
use Rattle.std.specs.Prelude.{ℕ, Bool, ◌&&◌, ◌||◌, ◌==◌, not}
use Rattle.gabc_svg.specs.Escape.{is_between}

abbrev pub is_plain : ℕ → Bool
is_plain b = is_between 32 126 b && not (b == 38 || b == 60 || b == 62 || b == 34)
