-- Limits that are no less than others.
use Rattle.std.specs.Prelude.{◌≤◌}
use Rattle.gabc_places.specs.declared.limits.Limits.{Limits}

-- each of the larger ones is at least that of the others
pub record AreNoLess (limits larger : Limits) : Type 0 where
  pub header : limits.header ≤ larger.header
  pub syllable : limits.syllable ≤ larger.syllable
  pub input : limits.input ≤ larger.input
