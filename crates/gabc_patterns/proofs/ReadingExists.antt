-- Where an item begins at each place, there is a reading.
use Rattle.std.proofs.Common.{◌≡◌, ℕ, zero, suc, List, [], ◌∷◌, ◌++◌, refl, sym, drop, length, slice_range, ◌≤◌, ◌-◌, arith, length-drop, take-append-drop}
use Rattle.gabc_patterns.specs.LongestItems.{IsReadingBy}
use Rattle.gabc_patterns.specs.Items.{IsTakenAt}

module _ {K X : Type 0} (Has : K → List X → Type 0) (begins : (c : X) (t : List X) → (k : K) × (to : ℕ) × IsTakenAt Has (c ∷ t) 0 k to) where
  reading_within : (n : ℕ) (t : List X) → length t ≤ n → (items : List (K × List X)) × IsReadingBy Has items t
  reading_within n [] l = ([], refl)
  reading_within zero (c ∷ t) l = absurd (omega arith)
  reading_within (suc n) (c ∷ t) l =
      let (k, to, h) = begins c t in
      let some = h.after in
      let later = reading_within n (drop to (c ∷ t)) (omega (arith, length-drop to (c ∷ t))) in
      ((k, slice_range (c ∷ t) 0 to) ∷ later.0, (drop to (c ∷ t), cut to, h.item, h.longest, later.1))
    where
      cut : (to : ℕ) → c ∷ t ≡ slice_range (c ∷ t) 0 to ++ drop to (c ∷ t)
      cut to = let n : to - 0 ≡ to = omega arith in rw (n) (sym (take-append-drop to (c ∷ t)))

  -- a reading of a list
  pub reading_exists : (t : List X) → (items : List (K × List X)) × IsReadingBy Has items t
  reading_exists t = reading_within (length t) t (omega arith)
