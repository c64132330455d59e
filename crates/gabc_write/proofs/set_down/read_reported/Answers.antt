use Rattle.std.proofs.Common.{◌≡◌, true, false, Bool, List, ℕ, Some, is_some, refl, arith}
use Rattle.gabc_text.specs.TextStage.{fresh_stage}
use Rattle.gabc_text.specs.witness.EventsLeft as fresh_events
use Rattle.gabc_score.specs.declared.body_stage.BodyPart.TheVariants.{Text}
use Rattle.gabc_score.specs.declared.body_tells.Openers.{Openers}
use Rattle.gabc_score.specs.declared.score_machine.ScorePart.{ScorePart}
use Rattle.gabc_score.specs.ReadAgain.{ComesBefore, ReportsReading}
use Rattle.gabc_body.specs.ScoreEvents.{first_place}
use Rattle.gabc_score.specs.ScoreReports.{before_of, in_body, is_in_comment, is_in_front, openers_of, reading_of}
use Rattle.gabc_score.specs.witness.ScoreStage.{ScoreStageState}
use Rattle.gabc_write.specs.machine.SetDown.{BeginsAlike}
use Rattle.gabc_write.proofs.set_down.read_reported.Goals as goal

-- what is reported is reported in the body
body_tells : {A : Type 0} (p : ScorePart) (x y : A) → Some y ≡ in_body p x → y ≡ x
body_tells p x y e = grind arith

-- if a text begins, no comment is open
none_open : is_in_comment (Text (fresh_stage first_place)) ≡ false
unfolding fresh_events.events_left
none_open = refl

-- what a stage reports of the syllable that it reads, by what was asked of it
reports : (told : ScoreStageState) (kept : List ℕ) (o : Openers) (comment : Bool) → is_in_front told.body.part ≡ false → kept ≡ reading_of told → Some o ≡ in_body told.part (openers_of told.body.part)
    → Some comment ≡ in_body told.part (is_in_comment told.body.part) → ReportsReading told kept o comment
reports told kept o comment front reading openers inside = grind (arith, body_tells)

-- a stage that begins a text after the same stands before the syllable
stands_before : (told s : ScoreStageState) → is_some (before_of told) ≡ true → BeginsAlike told s → ComesBefore s
stands_before told s runs b = grind (arith, none_open)

pub returns : goal.returns
returns c = grind (arith, reports, stands_before, body_tells)
