-- What passes a test stands in a run.
use Rattle.std.proofs.Common.{◌≡◌, ℕ, zero, suc, List, Bool, true, false, refl, sym, subst, length, ◌<◌, ◌≤◌, ◌+◌, arith}
use native.Mathlib.Decide.{dec_lt}
use Rattle.gabc_places.specs.declared.place.Span.{Span}
use Rattle.gabc_neumes.specs.Runs.{passes_at, IsRun}
use Rattle.gabc_neumes.proofs.runs_of_items.RunsOneByOne.{past}

module _ {X : Type 0} (p : X → Bool) (xs : List X) where
  -- what stands from one index up to another passes
  abbrev pub Passes : ℕ → ℕ → Type 0
  Passes from to = (k : ℕ) → from ≤ k → k < to → passes_at p xs k ≡ true

  -- as far back as all passes
  back : (from to : ℕ) → Passes from to → (low : ℕ) × (low ≤ from) × Passes low to × ((k : ℕ) → k + 1 ≡ low → passes_at p xs k ≡ false)
  back zero to h = (0, omega arith, h, λ k e. absurd (omega arith))
  back (suc from) to h = go (passes_at p xs from) refl (back from to)
    where
      more : passes_at p xs from ≡ true → Passes from to
      more e k a l = elim (dec_lt from k) [ yes y ↦ h k (omega arith) l | no n ↦ (let same : k ≡ from = omega arith in subst (λ (m : ℕ). passes_at p xs m ≡ true) (sym same) e) ]

      go : (b : Bool) → passes_at p xs from ≡ b
          → (Passes from to → (low : ℕ) × (low ≤ from) × Passes low to × ((k : ℕ) → k + 1 ≡ low → passes_at p xs k ≡ false))
          → (low : ℕ) × (low ≤ suc from) × Passes low to × ((k : ℕ) → k + 1 ≡ low → passes_at p xs k ≡ false)
      go true e later = (let r = later (more e) in let l = r.1 in (r.0, omega arith, r.2, r.3))
      go false e later = (suc from, omega arith, h, λ k f. (let same : k ≡ from = omega arith in subst (λ (m : ℕ). passes_at p xs m ≡ false) (sym same) e))

  -- as far on as all passes
  on : (fuel from to : ℕ) → length xs ≤ to + fuel → Passes from to → (high : ℕ) × (to ≤ high) × Passes from high × (passes_at p xs high ≡ false)
  on zero from to l h = (to, omega arith, h, past p xs xs to (omega arith))
  on (suc fuel) from to l h = go (passes_at p xs to) refl (λ g. on fuel from (to + 1) (omega arith) g)
    where
      more : passes_at p xs to ≡ true → Passes from (to + 1)
      more e k a m = elim (dec_lt k to) [ yes y ↦ h k a y | no n ↦ (let same : k ≡ to = omega arith in subst (λ (m : ℕ). passes_at p xs m ≡ true) (sym same) e) ]

      go : (b : Bool) → passes_at p xs to ≡ b
          → (Passes from (to + 1) → (high : ℕ) × (to + 1 ≤ high) × Passes from high × (passes_at p xs high ≡ false))
          → (high : ℕ) × (to ≤ high) × Passes from high × (passes_at p xs high ≡ false)
      go true e later = (let r = later (more e) in let l = r.1 in (r.0, omega arith, r.2, r.3))
      go false e later = (to, omega arith, h, e)

  alone : (i : ℕ) → passes_at p xs i ≡ true → Passes i (i + 1)
  alone i e k a l = (let same : k ≡ i = omega arith in subst (λ (m : ℕ). passes_at p xs m ≡ true) (sym same) e)

  pub stands_in_run : (i : ℕ) → passes_at p xs i ≡ true → (s : Span) × IsRun p xs s × (s.from ≤ i) × (i < s.to)
  stands_in_run i e =
      let b = back i (i + 1) (alone i e) in
      let o = on (length xs) b.0 (i + 1) (omega arith) b.2 in
      let low = b.1 in
      let high = o.1 in
      (record { from = b.0; to = o.0 }, record { some = omega arith; inside = o.2; before = b.3; after = o.3 }, low, omega arith)
