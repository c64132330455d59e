use Rattle.gabc_body.specs.declared.before.Before.{Before}
use Rattle.gabc_score.specs.ScoreReports.{before_with, held_of}
use Rattle.gabc_write.proofs.reading_again.TextDeterminesPendingSyllable.{held_by_its_text}
use Rattle.gabc_write.proofs.reading_again.PendingSyllableRoundTrips.{canonical_in_utf8}
use Rattle.gabc_write.proofs.laws.what_is_held_may_be_held_by_its_text.Goals as goal

pub returns : goal.returns
returns c =
    let s = c.args.stage.now in
    let before : Before = before_with s.body s.before in
    let stands = c.a_stage_is_reachable.ensures in
    held_by_its_text c.a_syllable_is_read_by_kept.ensures s.limits before (held_of s) (c.some_events_leave_spans_open.ensures before.spans) (c.what_is_held_is_read_from_its_own_text.ensures s stands)
    (canonical_in_utf8 s.body.nabc_lines (held_of s) (c.the_canonical_text_of_a_unit_is_a_text.ensures.utf8 s.body.nabc_lines) (c.what_is_held_holds_a_unit.ensures s stands) c.what_is_held_is_in_utf8.ensures)
    (c.what_is_reported_is_within_the_limits.ensures s stands c.requires.runs).held
