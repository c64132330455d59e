-- Two stages over a score of which the same is saved.
use Rattle.std.specs.Prelude.{◌≡◌, true, is_some}
use Rattle.std.specs.Option.{option_map}
use Rattle.gabc_score.specs.ScoreReports.{IsAt, before_of, held_of, is_in_comment, openers_of, reading_of}
use Rattle.gabc_score.specs.ReportedWithin.{ReportsText, written_after}
use Rattle.gabc_score.specs.witness.ScoreStage.{ScoreStageState}

-- In the body, under the same limits, the same is saved of both. What the one reports is that of a
-- text, and the place of the next character is the one that a text that is read has counted.
pub record AreSavedAlike (one other : ScoreStageState) : Type 0 where
  pub runs : is_some (before_of one) ≡ true
  pub limits : one.limits ≡ other.limits
  pub before : before_of one ≡ before_of other
  pub told : ReportsText one
  pub text : option_map (written_after one.before) (held_of one) ≡ option_map (written_after other.before) (held_of other)
  pub reading : reading_of one ≡ reading_of other
  pub openers : openers_of one.body.part ≡ openers_of other.body.part
  pub comment : is_in_comment one.body.part ≡ is_in_comment other.body.part
  pub next : one.held.next ≡ other.held.next
  pub stands : IsAt one.held.next one.body.part
  pub other_stands : IsAt other.held.next other.body.part
