-- The runs of a list: what passes a test, as far as it goes.
use Rattle.std.specs.Prelude.{◌≡◌, ◌<◌, ◌≤◌, ◌+◌, ℕ, zero, suc, List, [], ◌∷◌, Bool, true, false, ◌↔◌}
use Rattle.std.specs.List.{Contains, AllPairs}
use Rattle.gabc_places.specs.declared.place.Span.{Span}

-- something stands at that index, and it passes
abbrev pub passes_at : {X : Type 0} → (X → Bool) → List X → ℕ → Bool
passes_at p [] i = false
passes_at p (x ∷ xs) zero = p x
passes_at p (x ∷ xs) (suc i) = passes_at p xs i

-- The span, which counts indices, holds at least one index; what stands there passes, and what
-- stands before it and after it does not.
pub record IsRun {X : Type 0} (p : X → Bool) (xs : List X) (s : Span) : Type 0 where
  pub some : s.from < s.to
  pub inside : (i : ℕ) → s.from ≤ i → i < s.to → passes_at p xs i ≡ true
  pub before : (i : ℕ) → i + 1 ≡ s.from → passes_at p xs i ≡ false
  pub after : passes_at p xs s.to ≡ false

-- The spans are all runs of the list, in order.
pub record AreRuns {X : Type 0} (p : X → Bool) (xs : List X) (spans : List Span) : Type 0 where
  pub each : (s : Span) → Contains spans s ↔ IsRun p xs s
  pub order : AllPairs (λ s t. s.to < t.from) spans
