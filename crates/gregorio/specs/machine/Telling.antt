-- The report of a stage over a score stays that of a text.
use Rattle.std.specs.Prelude.{◌≡◌, ℕ, false}
use Rattle.gabc_headers.specs.declared.head_event.HeadEvent.{HeadEvent}
use Rattle.gabc_headers.specs.declared.head_event.HeadEvent.TheVariants as head_event
use Rattle.gabc_score.specs.declared.score_machine.ScorePart.TheVariants as score_part
use Rattle.gabc_score.specs.ScoreStage.{EndsLine, MayCome, IsInLine, next_past}
use Rattle.gabc_score.specs.ScoreReports.{IsInFront, is_in_comment}
use Rattle.gabc_score.specs.ReportedWithin.{HoldsIfAny, ReportsText}
use Rattle.gabc_score.specs.witness.ScoreStage.{ScoreStageState}

-- At an input the limits stay, and the report is that of a text if it was before.
pub record TellsOn (old : ScoreStageState) (x : HeadEvent) (new : ScoreStageState) : Type 0 where
  pub limits : new.limits ≡ old.limits
  pub next : new.part ≡ score_part.Body → new.held.next ≡ next_past old.part x old.held.next
  pub told : MayCome old.limits old.held.next x → IsInLine old → ReportsText old → ReportsText new
  pub holds : HoldsIfAny old → HoldsIfAny new
  pub line : EndsLine x → new.part ≡ score_part.Body → is_in_comment new.body.part ≡ false
  pub front : old.part ≡ score_part.Heads → (lines macros canonical : ℕ) → x ≡ head_event.Heads lines macros canonical → IsInFront new
