use Rattle.gabc_write.proofs.reading_again.ScoreIsPrinted as lemma
use Rattle.gabc_write.proofs.reading_again.ScoreReadAgainIsTheSame.{same_score}
use Rattle.gabc_write.proofs.reading_again.NoLimitIsPassedAgain.{none_again}
use Rattle.gabc_write.proofs.reading_again.NoErrorIsFoundAgain.{file_warns}
use Rattle.gabc_write.proofs.reading_again.SyllablesSayTheSame.{are_same}
use Rattle.gabc_write.proofs.laws.score_again.Goals as goal

pub returns : goal.returns
returns c =
    lemma.score_again c.score_is_printed.ensures c.text_again.ensures c.file_again.ensures
    (same_score c.units_end_at_their_marks.ensures.single c.body_again.ensures.first c.the_syllables_are_those_of_the_units.ensures.whole c.body_again.ensures.printed)
    c.given_syllables_are_within_the_limits.ensures
    (none_again c.units_end_at_their_marks.ensures.single c.body_again.ensures.first c.body_again.ensures.printed c.no_limit_is_passed_by_short_units.ensures)
    (file_warns c.findings_lie_within.ensures.warnings c.a_score_warns_as_its_parts_do.ensures)
    (are_same c.spans_stand_for_the_view.ensures.starts c.spans_stand_for_the_view.ensures.centre c.canonical_is_printed.ensures c.a_syllable_holds_its_parts.ensures.bytes)
