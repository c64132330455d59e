-- Gathered syllables whose canonical texts are within the limits.
use Rattle.std.specs.Prelude.{◌≡◌, ℕ, ◌<◌, ◌≤◌, ◌==◌, ◌||◌, List, [], ◌∷◌, Bool, false, length}
use Rattle.gabc_places.specs.declared.limits.Limits.{Limits}
use Rattle.gabc_score.specs.declared.preceding.Preceding.{Preceding}
use Rattle.gabc_body.specs.Body.{is_none}
use Rattle.gabc_body.specs.Canonical.{canonical}
use Rattle.gabc_body.specs.Syllable.{UnplacedSyllable}
use Rattle.gabc_score.specs.ReportedWithin.{IsAtOutset}
use Rattle.gabc_body.specs.witness.Gatherer.{Gathered}

-- the canonical texts of these syllables are within the limit; `first` says whether the first of
-- them is the first of a score
abbrev pub AreWritten : ℕ → Bool → List UnplacedSyllable → Type 0
AreWritten limit first [] = Unit {0}
AreWritten limit first (m ∷ ms) = (length (canonical (first || m.text.word_start) m) ≤ limit) × AreWritten limit false ms

-- so are those of the syllables not emitted, after the totals `before`; the canonical file is
-- within the limit of an input; before the first syllable no span is open and no note or clef has
-- come
pub record HoldsWithin (limits : Limits) (before : Preceding) (g : Gathered) : Type 0 where
  pub written : AreWritten limits.syllable (before.syllables == 0) g.made
  pub file : is_none g.made ≡ false → g.total < limits.input
  pub outset : IsAtOutset before
