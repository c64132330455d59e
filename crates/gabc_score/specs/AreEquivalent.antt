-- Two stages over a score that are equivalent in the body.
use Rattle.std.specs.Prelude.{◌≡◌, ◌==◌, true, is_some}
use Rattle.gabc_score.specs.HeldAside.{HoldTheSame}
use Rattle.gabc_score.specs.ScoreReports.{IsAt, before_of, held_of, is_in_comment, openers_of, reading_of}
use Rattle.gabc_score.specs.witness.ScoreStage.{ScoreStageState}

-- They run under the same limits after the same, with equivalent pending syllables or none, and
-- report the same of the syllable that is not whole. The place of the next character is the one
-- that a text that is read has counted.
pub record AreEquivalent (one other : ScoreStageState) : Type 0 where
  pub runs : is_some (before_of one) ≡ true
  pub limits : one.limits ≡ other.limits
  pub before : before_of one ≡ before_of other
  pub held : HoldTheSame (one.before.syllables == 0) (held_of one) (held_of other)
  pub reading : reading_of one ≡ reading_of other
  pub openers : openers_of one.body.part ≡ openers_of other.body.part
  pub comment : is_in_comment one.body.part ≡ is_in_comment other.body.part
  pub next : one.held.next ≡ other.held.next
  pub stands : IsAt one.held.next one.body.part
  pub other_stands : IsAt other.held.next other.body.part
