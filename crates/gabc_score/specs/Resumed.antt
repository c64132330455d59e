-- A stage over a score that resumes after syllables which another one has read.
use Rattle.std.specs.Prelude.{◌≡◌, ℕ, List, [], Some, None}
use Rattle.gabc_places.specs.declared.limits.Limits.{Limits}
use Rattle.gabc_text.specs.TextStage.{fresh_stage}
use Rattle.gabc_body.specs.declared.before.Before.{Before}
use Rattle.gabc_score.specs.declared.body_stage.BodyPart.TheVariants.{Text}
use Rattle.gabc_score.specs.declared.score_machine.ScorePart.TheVariants.{Body}
use Rattle.gabc_score.specs.HeldAgain.{MayBeHeld}
use Rattle.gabc_body.specs.ScoreEvents.{first_place}
use Rattle.gabc_score.specs.ScoreReports.{before_of, before_with, held_of, reading_of}
use Rattle.gabc_body.specs.Syllable.{UnplacedSyllable}
use Rattle.gabc_score.specs.witness.ScoreStage.{ScoreStageState}

-- in the body it begins to read a text, which is at the first place
pub record BeginsText (s : ScoreStageState) : Type 0 where
  pub body : s.part ≡ Body
  pub nothing_read : reading_of s ≡ []
  pub begins : s.body.part ≡ Text (fresh_stage first_place)
  pub next : s.held.next ≡ first_place

-- It is after the syllables that `before` reports, has no pending syllable, and begins to read a
-- text.
pub record IsAfterSyllables (limits : Limits) (before : Before) (s : ScoreStageState) : Type 0 where
  pub limits_are : s.limits ≡ limits
  pub before_is : before_of s ≡ Some before
  pub none_held : held_of s ≡ None
  pub begins : BeginsText s

-- Its pending syllable is that of a text. It is after the same as before, and begins to read the
-- next text.
pub record HoldsAgain (text : List ℕ) (old new : ScoreStageState) : Type 0 where
  pub m : UnplacedSyllable
  pub may : MayBeHeld old.limits (before_with old.body old.before) text m
  pub held : held_of new ≡ Some m
  pub limits : new.limits ≡ old.limits
  pub before_is : before_of new ≡ before_of old
  pub begins : BeginsText new
