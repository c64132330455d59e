-- Limits under which a state of another run is judged.
use Rattle.std.specs.Prelude.{◌≡◌, ◌⊎◌, ℕ, ◌≤◌, length}
use Rattle.gabc_places.specs.declared.limits.Limits.{Limits}
use Rattle.gregorio_state.specs.Fields.{ScoreFields}

-- The limits `small` are those of the state, or both allow headers of `len` bytes.
abbrev pub IsEnough : Limits → ℕ → Limits → Type 0
IsEnough limits len small = (small ≡ limits) ⊎ ((len ≤ limits.header) × (len ≤ small.header))

-- The limits allow the two texts of a score.
pub record LetsTexts (f : ScoreFields) (limits : Limits) : Type 0 where
  pub held : length f.held ≤ limits.syllable
  pub kept : length f.kept ≤ limits.syllable

-- Both limits allow the texts of a score, and inputs of the same length.
pub record AreEnough (f : ScoreFields) (limits small : Limits) : Type 0 where
  pub own : LetsTexts f limits
  pub others : LetsTexts f small
  pub input : small.input ≡ limits.input

abbrev pub IsEnoughFor : ScoreFields → Limits → Limits → Type 0
IsEnoughFor f limits small = (small ≡ limits) ⊎ AreEnough f limits small
