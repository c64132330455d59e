-- A stage on its way to be restored.
use Rattle.std.specs.Prelude.{◌≡◌, ◌==◌, ℕ, List, IfSome, is_some, false, true}
use Rattle.gabc_score.specs.HeldAside.{HoldTheSame}
use Rattle.gabc_score.specs.Resumed.{BeginsText}
use Rattle.gabc_score.specs.ScoreReports.{IsAt, before_of, held_of, is_in_comment, is_in_front, openers_of, reading_of}
use Rattle.gabc_score.specs.ReportedWithin.{ReportsWithin, written_after}
use Rattle.gabc_score.specs.witness.ScoreStage.{ScoreStageState}
use Rattle.gabc_write.specs.SetDown.{SayTheSame}

-- In the body the stage reports what is within its limits, and `text` is the canonical text of its
-- pending syllable, if there is one.
pub record HasHeldText (told : ScoreStageState) (text : List ℕ) : Type 0 where
  pub runs : is_some (before_of told) ≡ true
  pub within : ReportsWithin told
  pub is : IfSome (held_of told) (λ m. text ≡ written_after told.before m)

-- The stage `s` has the same limits as `told`, and the same totals before its pending syllable.
-- This one is equivalent to the pending syllable of `told`, if there is one.
pub record HoldsAlike (told s : ScoreStageState) : Type 0 where
  pub limits_are : s.limits ≡ told.limits
  pub before_is : before_of s ≡ before_of told
  pub held : HoldTheSame (told.before.syllables == 0) (held_of told) (held_of s)
  pub says : SayTheSame (told.before.syllables == 0) (held_of told) (held_of s)

-- the same, with `s` at the beginning of a text
pub record BeginsAlike (told s : ScoreStageState) : Type 0 where
  pub holds : HoldsAlike told s
  pub begins : BeginsText s

-- the same, and both report the same of the current syllable, with the next character at one place
pub record TellsAlike (told s : ScoreStageState) : Type 0 where
  pub holds : HoldsAlike told s
  pub reading : reading_of told ≡ reading_of s
  pub openers : openers_of told.body.part ≡ openers_of s.body.part
  pub comment : is_in_comment told.body.part ≡ is_in_comment s.body.part
  pub front : is_in_front s.body.part ≡ false
  pub next : told.held.next ≡ s.held.next
  pub stands : IsAt s.held.next s.body.part
