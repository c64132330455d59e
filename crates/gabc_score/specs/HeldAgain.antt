-- A text that is read by itself as one syllable, which is pending then.
use Rattle.std.specs.Prelude.{ℕ, ◌+◌, ◌≤◌, List, length}
use Rattle.gabc_places.specs.declared.limits.Limits.{Limits}
use Rattle.gabc_body.specs.declared.before.Before.{Before}
use Rattle.gabc_score.specs.Before.{preceding_of}
use Rattle.gabc_body.specs.Syllable.{UnplacedSyllable}
use Rattle.gabc_score.specs.ReportedWithin.{written_after}
use Rattle.gabc_body.specs.ReadAlone.{IsReadAsSyllable}

-- After what `before` reports, the text is this syllable, and no limit is passed with it.
pub record MayBeHeld (limits : Limits) (before : Before) (text : List ℕ) (m : UnplacedSyllable) : Type 0 where
  pub read : IsReadAsSyllable before.nabc_lines before.macros text before.spans limits.syllable m
  pub kept : length m.kept ≤ limits.syllable
  pub short : length (written_after (preceding_of before) m) ≤ limits.syllable
  pub file : before.canonical + length (written_after (preceding_of before) m) + 1 ≤ limits.input
