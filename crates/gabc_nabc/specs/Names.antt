-- The names of codes, by the table of names.
use Rattle.std.specs.Prelude.{ℕ, List, [], ◌∷◌, Bool, ◌&&◌, ◌==◌, Option, Some, None, cond, is_some, map}
use Rattle.gabc_nabc.specs.declared.names.TheConstants.{NAMES}

-- the name in the first row of these two letters
abbrev pub name_among : ℕ → ℕ → List (ℕ × ℕ × List ℕ) → Option (List ℕ)
name_among a b [] = None
name_among a b (row ∷ rows) = cond ((row.0 == a) && (row.1 == b)) (Some row.2) (name_among a b rows)

-- the name of the code of these two letters, if the table has it
abbrev pub name_by : ℕ → ℕ → Option (List ℕ)
name_by a b = name_among a b (map (λ row. (row.0, row.1, row.2.now)) NAMES)

-- the table has the code of these two letters
abbrev pub is_known : ℕ → ℕ → Bool
is_known a b = is_some (name_by a b)

-- the name of a text that is such a code
abbrev pub name_in : List ℕ → Option (List ℕ)
name_in (a ∷ b ∷ []) = name_by a b
name_in _ = None
