-- The values of `nabc-lines` that are in range, spelled out: each is the digit of the number of
-- lines it says.
use Rattle.std.specs.Prelude.{ℕ, List, [], ◌∷◌, codes}

abbrev pub values_in_range : List (List ℕ)
values_in_range = codes "0" ∷ codes "1" ∷ codes "2" ∷ codes "3" ∷ codes "4" ∷ []
