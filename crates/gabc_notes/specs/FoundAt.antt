-- The findings at one character.
use Rattle.std.specs.Prelude.{◌≡◌, ◌⊎◌, List, [], ◌∷◌}
use Rattle.gabc_places.specs.declared.code.Finding.{Finding}

-- these are the one finding that is made, or none if none is made
abbrev pub AreThoseFound : (Finding → Type 0) → List Finding → Type 0
AreThoseFound Is fs = ((f : Finding) × Is f × (fs ≡ f ∷ [])) ⊎ (((f : Finding) → ¬ Is f) × (fs ≡ []))
