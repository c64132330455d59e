-- The earliest of some stops is the least of them.
use Rattle.std.proofs.Common.{◌≡◌, ℕ, zero, suc, ◌<◌, ◌≤◌, Bool, true, false, cond, List, [], ◌∷◌, Some, ◌⊎◌, inl, inr, refl, sym, subst, arith, ◌==◌, ◌||◌, ◌&&◌, nat_lt}
use Rattle.std.specs.List.{Contains, All}
use Rattle.std.proofs.lemmas.Bool.Decides.{nat_tests}
use Rattle.gabc_places.specs.Code.{rank_of}
use Rattle.gabc_places.specs.Findings.{Stop, earlier, or_earlier, earliest, IsNoLater}

-- by points and ranks
abbrev NoLater : ℕ → ℕ → ℕ → ℕ → Type 0
NoLater p q r s = (p < r) ⊎ ((p ≡ r) × (q ≤ s))

itself : (s : Stop) → IsNoLater s s
itself s = inr (refl, omega arith)

along : (p q r s t u : ℕ) → NoLater p q r s → NoLater r s t u → NoLater p q t u
along p q r s t u h k = grind arith

later_if : (p q r s : ℕ) → (nat_lt r p || ((r == p) && nat_lt s q)) ≡ true → NoLater r s p q
later_if p q r s e = grind (arith, nat_tests)

first_if : (p q r s : ℕ) → (nat_lt r p || ((r == p) && nat_lt s q)) ≡ false → NoLater p q r s
first_if p q r s e = grind (arith, nat_tests)

-- the earlier of two is one of them, and no later than either
record Picks (a b s : Stop) : Type 0 where
  is : (s ≡ a) ⊎ (s ≡ b)
  first : IsNoLater s a
  second : IsNoLater s b

picks_by : (t : Bool) (a b : Stop) → (nat_lt b.point a.point || ((b.point == a.point) && nat_lt (rank_of b.fault.code) (rank_of a.fault.code))) ≡ t → Picks a b (cond t b a)
picks_by true a b e = record { is = inr refl; first = later_if _ _ _ _ e; second = itself b }
picks_by false a b e = record { is = inl refl; first = itself a; second = first_if _ _ _ _ e }

picks : (a b : Stop) → Picks a b (earlier a b)
picks a b = picks_by _ a b refl

-- s is one of the stops and no later than any
pub record IsLeast (stops : List Stop) (s : Stop) : Type 0 where
  pub found : Contains stops s
  pub least : All (IsNoLater s) stops

after : (x : Stop) (xs : List Stop) (s : Stop) → Contains xs s → Contains (x ∷ xs) s
after x xs s (k, less, is) = (suc k, omega arith, is)

found_of : (x m s : Stop) (xs : List Stop) → Contains xs m → (s ≡ x) ⊎ (s ≡ m) → Contains (x ∷ xs) s
found_of x m s xs c (inl e) = (0, omega arith, sym e)
found_of x m s xs c (inr e) = after x xs s (subst (Contains xs) (sym e) c)

least_of : (x m s : Stop) (xs : List Stop) → All (IsNoLater m) xs → IsNoLater s x → IsNoLater s m → All (IsNoLater s) (x ∷ xs)
least_of x m s xs all first second zero d less = first
least_of x m s xs all first second (suc k) d less = along _ _ _ _ _ _ second (all k d (omega arith))

alone : (x : Stop) → All (IsNoLater x) (x ∷ [])
alone x h d less = grind (arith, itself)

-- the earliest of one stop or more
pub least : (x : Stop) (xs : List Stop) → IsLeast (x ∷ xs) (or_earlier x (earliest xs))
least x [] = record { found = (0, omega arith, refl); least = alone x }
least x (y ∷ ys) =
    let m : Stop = or_earlier y (earliest ys) in
    let below : IsLeast (y ∷ ys) m = least y ys in
    let p : Picks x m (earlier x m) = picks x m in
    record { found = found_of x m (earlier x m) (y ∷ ys) below.found p.is; least = least_of x m (earlier x m) (y ∷ ys) below.least p.first p.second }

-- what is found as the earliest is the least
pub least-found : (stops : List Stop) (s : Stop) → earliest stops ≡ Some s → IsLeast stops s
least-found [] s e = absurd (cc)
least-found (x ∷ xs) s e = let same : or_earlier x (earliest xs) ≡ s = cc in subst (IsLeast (x ∷ xs)) same (least x xs)
