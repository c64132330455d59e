use Rattle.std.proofs.Common.{sym, subst}
use Rattle.gabc_score.specs.ReportedWithin.{ReportsText}
use Rattle.gabc_score.proofs.score_events.MovedStageReportsText.{moved_is_reported}
use Rattle.gabc_score.proofs.stage_laws.what_is_reported_may_move.Goals as goal

pub returns : goal.returns
returns c = λ told. subst ReportsText (sym c.go_to.ensures) (moved_is_reported c.what_is_open_stays_open_elsewhere.ensures.opener c.args.at c.args.stage.now c.requires.later c.requires.place told)
