use Rattle.gabc_places.specs.StageLaw.{concat_of}
use Rattle.gabc_body.specs.ScoreEvents.{syllables_in}
use Rattle.gabc_score.specs.ScoreReports.{held_of}
use Rattle.gabc_score.specs.witness.ScoreStage.{left_of}
use Rattle.gabc_write.proofs.reading_again.PendingSyllableRoundTrips.{canonical_in_utf8, written_as_one}
use Rattle.gabc_write.proofs.laws.what_breaks_off_is_one_syllable.Goals as goal
use Rattle.std.proofs.Common.{[]}

pub returns : goal.returns
returns c =
    let s = c.args.stage.now in
    let stands = c.a_stage_is_reachable.ensures in
    written_as_one c.a_text_is_one_syllable_by_kept.ensures s.body.nabc_lines s.body.macros s.limits (held_of s) (syllables_in (concat_of (left_of s [])))
    (c.what_is_held_is_read_from_its_own_text.ensures s stands)
    (canonical_in_utf8 s.body.nabc_lines (held_of s) (c.the_canonical_text_of_a_unit_is_a_text.ensures.utf8 s.body.nabc_lines) (c.what_is_held_holds_a_unit.ensures s stands) c.what_is_held_is_in_utf8.ensures)
    (c.what_is_held_is_within_the_limits.ensures s stands) (c.what_breaks_off_is_held.ensures s stands)
