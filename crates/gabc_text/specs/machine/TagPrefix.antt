-- A tag's name as its characters come.
use Rattle.std.specs.Prelude.{ℕ, List, [], ◌∷◌, ◌++◌, length, nat_lt, if◌then◌else◌}
use Rattle.gabc_text.specs.declared.tags.TheConstants.{KEPT}

-- the first characters of the name with one more, at most `KEPT`
abbrev pub next_name : List ℕ → ℕ → List ℕ
next_name s c = if nat_lt (length s) KEPT then s ++ c ∷ [] else s
