use Rattle.std.proofs.Common.{sym, subst}
use Rattle.gabc_score.specs.ReportedWithin.{ReportsText}
use Rattle.gabc_score.proofs.resuming.MachinesReadAgain.{reports_again, tells_of_text, reports_the_same}
use Rattle.gabc_score.proofs.score_stage.ScoreStage.read_again.Goals as goal

pub returns-clause-same : goal.returns-clause-same
returns-clause-same c = rw (sym c.self.view_is) (reports_the_same c.read_again.ensures.reads)

pub returns-clause-told : goal.returns-clause-told
returns-clause-told c = λ good is openers text told. tells_of_text c.read_again.ensures.reads good is openers text (subst ReportsText (sym c.self.view_is) told)

pub returns-clause-again : goal.returns-clause-again
returns-clause-again c =
    let laws = c.laws_of_stages.ensures in
    let stays = c.what_is_open_stays_open_elsewhere.ensures in
    rw (sym c.self.view_is) (reports_again c.read_again.ensures.reads laws.ends laws.again (record { opener = stays.opener; comment = stays.comment; opened = stays.opened; comment_opened = stays.comment_opened }) c.utf8.kept)
