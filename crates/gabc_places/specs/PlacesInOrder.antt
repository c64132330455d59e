-- Places that come before others.
use Rattle.std.specs.Prelude.{◌≡◌, ◌⊎◌, ◌^◌, ◌<◌, ◌≤◌, Option, Some}
use Rattle.gabc_places.specs.declared.place.Place.{Place}

abbrev pub IsEarlier : Place → Place → Type 0
IsEarlier p q = (p.line < q.line) ⊎ ((p.line ≡ q.line) × (p.column < q.column))

-- p is a place of the text before the next character
pub record LiesBefore (next p : Place) : Type 0 where
  pub line : 1 ≤ p.line
  pub column : 1 ≤ p.column
  pub in_64_bits : p.column < 2 ^ 64
  pub earlier : IsEarlier p next

-- of two places the second comes after the first, if both are there
abbrev pub AreInOrder : Option Place → Option Place → Type 0
AreInOrder (Some p) (Some q) = IsEarlier p q
AreInOrder _ _ = Unit {0}
