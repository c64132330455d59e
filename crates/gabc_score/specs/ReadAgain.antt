-- A kept text that is read again: the reports of a stage before it, and after it.
use Rattle.std.specs.Prelude.{◌≡◌, ℕ, List, [], Bool, true, false, Some, None, is_some, encode_utf8_all}
use Rattle.gabc_places.specs.declared.place.Place.{Place}
use Rattle.gabc_places.specs.declared.limits.Limits.{Limits}
use Rattle.gabc_score.specs.declared.body_tells.Openers.{Openers}
use Rattle.gabc_score.specs.ScoreReports.{IsAt, before_of, held_of, is_in_comment, is_in_front, next_of, openers_of, reading_of}
use Rattle.gabc_score.specs.witness.ReadAgain.{CanBeReadAgain}
use Rattle.gabc_score.specs.witness.ScoreStage.{ScoreStageState}

-- A stage is in the body before a syllable, in no comment.
pub record ComesBefore (s : ScoreStageState) : Type 0 where
  pub runs : is_some (before_of s) ≡ true
  pub nothing_read : reading_of s ≡ []
  pub outside : is_in_comment s.body.part ≡ false

-- After the comment in front it reports this of the syllable that it reads.
pub record ReportsReading (s : ScoreStageState) (kept : List ℕ) (openers : Openers) (comment : Bool) : Type 0 where
  pub front : is_in_front s.body.part ≡ false
  pub reading : reading_of s ≡ kept
  pub openers_are : openers_of s.body.part ≡ openers
  pub comment_is : is_in_comment s.body.part ≡ comment

-- But for the syllable that is read it reports the same as before, and this is the place of the
-- next character.
pub record ReportsTheSameBut (before after : ScoreStageState) (next : Place) : Type 0 where
  pub before_same : before_of after ≡ before_of before
  pub held_same : held_of after ≡ held_of before
  pub next_is : next_of after ≡ Some next
  pub stands : IsAt next after.body.part

-- no bracket is open
abbrev pub no_openers : Openers
no_openers = record { notes = None; inner = None }

-- The comment in front of the first text is one that some stage, after the same and under the same
-- limits, reports in a text of which nothing is kept.
pub record CanBeReadInText (s : ScoreStageState) : Type 0 where
  pub told : ScoreStageState
  pub again : CanBeReadAgain told
  pub limits : told.limits ≡ s.limits
  pub lines : told.body.nabc_lines ≡ s.body.nabc_lines
  pub macros : told.body.macros ≡ s.body.macros
  pub before : before_of told ≡ before_of s
  pub tells : ReportsReading told [] no_openers true

-- Some stage reports this of the syllable that it reads, under these limits, with these lines and
-- macros.
pub record IsReported (limits : Limits) (lines macros : ℕ) (t : List ℕ) (openers : Openers) (comment : Bool) : Type 0 where
  pub stage : ScoreStageState
  pub again : CanBeReadAgain stage
  pub limits_are : stage.limits ≡ limits
  pub lines_are : stage.body.nabc_lines ≡ lines
  pub macros_are : stage.body.macros ≡ macros
  pub tells : ReportsReading stage (encode_utf8_all t) openers comment
