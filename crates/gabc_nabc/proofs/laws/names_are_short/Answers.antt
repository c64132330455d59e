use Rattle.std.proofs.Common.{◌≡◌, ◌≤◌, ◌&&◌, ◌==◌, ℕ, List, [], ◌∷◌, Bool, true, false, cond, nat_le, Some, length, map, refl, subst}
use Rattle.std.proofs.lemmas.Bool.{leb-true, and_parts}
use Rattle.gabc_nabc.specs.Names.{name_among}
use Rattle.gabc_nabc.specs.declared.names.TheConstants.{NAMES}
use Rattle.gabc_nabc.proofs.laws.names_are_short.Goals as goal

abbrev are_short : List (ℕ × ℕ × List ℕ) → Bool
are_short [] = true
are_short (row ∷ rows) = nat_le (length row.2) 20 && are_short rows

short_among : (rows : List (ℕ × ℕ × List ℕ)) (a b : ℕ) (name : List ℕ) → are_short rows ≡ true → name_among a b rows ≡ Some name → length name ≤ 20
short_among [] a b name h e = cc
short_among (row ∷ rows) a b name h e = by ((row.0 == a) && (row.1 == b)) (short_among rows a b name (and_parts _ _ h).1) e
  where
    by : (x : Bool) → (name_among a b rows ≡ Some name → length name ≤ 20) → cond x (Some row.2) (name_among a b rows) ≡ Some name → length name ≤ 20
    by true later f = (let same : row.2 ≡ name = cc in subst (λ (u : List ℕ). length u ≤ 20) same (leb-true (length row.2) 20 (and_parts _ _ h).0))
    by false later f = later f

pub returns : goal.returns
returns c = λ a b name e. short_among (map (λ row. (row.0, row.1, row.2.now)) NAMES) a b name refl e
