-- A part and a machine stay what they are if the next character, or what is open, is said to stand
-- elsewhere.
use Rattle.std.proofs.Common.{◌≡◌, ℕ, option_map, arith}
use Rattle.gabc_places.specs.declared.place.Place.{Place}
use Rattle.gabc_text.specs.StageReports as text_tells
use Rattle.gabc_text.specs.witness.StageReports as text_reports
use Rattle.gabc_text.specs.declared.stage.TextStage.{TextStage}
use Rattle.gabc_score.specs.declared.body_stage.BodyPart.{BodyPart}
use Rattle.gabc_score.specs.declared.score_machine.ScoreMachine.{ScoreMachine}
use Rattle.gabc_score.specs.declared.score_machine.ScorePart.{ScorePart}
use Rattle.gabc_score.specs.declared.body_tells.Openers.{Openers}
use Rattle.gabc_score.specs.ScoreReports.{IsAt, is_in_comment, is_in_front, moved_part, openers_of}
use Rattle.gabc_score.specs.machine.PartCounts.{CountsHold}
use Rattle.gabc_score.specs.machine.PartKeeps.{KeptParts, PartKeeps}
use Rattle.gabc_score.specs.machine.ReadAgain.{opened_part}
use Rattle.gabc_score.specs.machine.ScoreMachine.{IsAtRest, IsScoreAt}
use Rattle.gabc_body.specs.witness.SyllableBuilder.{OpenSyllable}
use Rattle.gabc_score.specs.witness.BodyStage.{BodyStageState}
use Rattle.gabc_score.proofs.score_events.FrontIsFirst.{front_moved}

-- ---- a part

-- what is open in a text stays open
pub record TextStays : Type 0 where
  pub opener : (s : TextStage) (at : Place) → text_tells.opener_of (text_reports.moved_to at s) ≡ text_tells.opener_of s
  pub comment : (s : TextStage) (at : Place) → text_tells.is_in_comment (text_reports.moved_to at s) ≡ text_tells.is_in_comment s
  pub opened : (s : TextStage) (at : Place) → text_tells.opener_of (text_reports.opened_at at s) ≡ option_map (λ p. at) (text_tells.opener_of s)
  pub comment_opened : (s : TextStage) (at : Place) → text_tells.is_in_comment (text_reports.opened_at at s) ≡ text_tells.is_in_comment s

pub openers_moved : TextStays → (at : Place) (b : BodyPart) → openers_of (moved_part at b) ≡ openers_of b
openers_moved stays at b = grind arith

pub comment_moved : TextStays → (at : Place) (b : BodyPart) → is_in_comment (moved_part at b) ≡ is_in_comment b
comment_moved stays at b = grind arith

pub comment_opened : TextStays → (o : Openers) (b : BodyPart) → is_in_comment (opened_part o b) ≡ is_in_comment b
comment_opened stays o b = grind arith

pub front_opened : (o : Openers) (b : BodyPart) → is_in_front (opened_part o b) ≡ is_in_front b
front_opened o b = grind arith

pub stands_moved : (at : Place) (b : BodyPart) → IsAt at (moved_part at b)
stands_moved at b = grind arith

counts_moved : (at : Place) (b : BodyPart) (o : OpenSyllable) → CountsHold b o → CountsHold (moved_part at b) o
counts_moved at b o h = grind arith

counts_opened : (o : Openers) (b : BodyPart) (g : OpenSyllable) → CountsHold b g → CountsHold (opened_part o b) g
counts_opened o b g h = grind arith

-- ---- a machine

module _ (m : ScoreMachine) (at : Place) (b : BodyStageState) (keeps : (lines macros : ℕ) (p : KeptParts) → PartKeeps lines macros m.body.part p → PartKeeps lines macros b.part p) where
  abbrev there : ScoreMachine
  there = record m { next = at; body = b }

  rests_there : IsAtRest m → IsAtRest there
  rests_there r = record { none = r.none; room = r.room; limit = r.limit; used = r.used; over = r.over; short = r.short }

  pub score_moved : b ≡ record m.body { part = moved_part at m.body.part } → (p : ScorePart) → IsScoreAt p m → IsScoreAt p there
  score_moved is p h = grind (arith, rests_there, counts_moved, front_moved)

  pub score_opened : (o : Openers) → b ≡ record m.body { part = opened_part o m.body.part } → (p : ScorePart) → IsScoreAt p m → IsScoreAt p there
  score_opened o is p h = grind (arith, rests_there, counts_opened, front_opened)
