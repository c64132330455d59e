-- What a stage reports is still that of a text if its next character stands there or later.
use Rattle.std.proofs.Common.{◌≡◌, sym, subst, arith}
use Rattle.gabc_places.specs.declared.place.Place.{Place}
use Rattle.gabc_places.specs.Findings.{IsUpTo}
use Rattle.gabc_text.specs.StageReports as text_tells
use Rattle.gabc_text.specs.witness.StageReports as text_reports
use Rattle.gabc_text.specs.declared.stage.TextStage.{TextStage}
use Rattle.gabc_score.specs.declared.body_stage.BodyPart.{BodyPart}
use Rattle.gabc_score.specs.ScoreReports.{moved_part, moved_to, openers_of}
use Rattle.gabc_score.specs.ReportedWithin.{IsPlace, AreOpenersBefore, ReportsText}
use Rattle.gabc_score.specs.witness.ScoreStage.{ScoreStageState}
use Rattle.gabc_score.proofs.score_events.OpenersInOrder.{openers_moved}

module _ (text_stays : (s : TextStage) (at : Place) → text_tells.opener_of (text_reports.moved_to at s) ≡ text_tells.opener_of s) where
  pub openers_stay : (at : Place) (b : BodyPart) → openers_of (moved_part at b) ≡ openers_of b
  openers_stay at b = grind arith

  pub moved_is_reported : (at : Place) (s : ScoreStageState) → IsUpTo s.held.next at → IsPlace at → ReportsText s → ReportsText (moved_to at s)
  moved_is_reported at s up is told body =
      let t = told body in
      record {
        counts = t.counts;
        next = is;
        reading = t.reading;
        held = t.held;
        openers = subst (AreOpenersBefore at) (sym (openers_stay at s.body.part)) (openers_moved s.held.next at (openers_of s.body.part) up t.openers);
      }
