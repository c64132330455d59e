use Rattle.gabc_score.specs.ReportedWithin.{ReportsWithin}
use Rattle.gabc_score.proofs.resuming.ReachableStatesMeetInvariant.{in_the_body}
use Rattle.gabc_score.proofs.score_events.ReportIsWithinLimits.{no_comment_inside, reports_in_body}
use Rattle.gabc_score.proofs.stage_laws.what_is_reported_is_within_the_limits.Goals as goal

pub returns : goal.returns
returns c =
    let text = c.what_is_open_follows_from_the_kept_text.ensures in
    let opener = c.an_opener_is_reported_inside_raw.ensures in
    in_the_body ReportsWithin
    (λ m runs. reports_in_body m runs.part runs.body runs.few (no_comment_inside text.opener text.comment text.apart opener.opener opener.comment m.body.nabc_lines m.body.macros m.body.part runs.body.reading.parts runs.body.reading.keeps))
