use Rattle.gabc_write.proofs.reading_again.ScoreIsPrinted.{score_printed}
use Rattle.gabc_write.proofs.laws.score_is_printed.Goals as goal

pub returns : goal.returns
returns c =
    score_printed c.a_body_has_one_cutting.ensures.one c.units_end_at_their_marks.ensures.single c.the_syllables_are_those_of_the_units.ensures.characters c.body_again.ensures.first
    c.the_syllables_are_those_of_the_units.ensures.whole c.the_syllables_are_those_of_the_units.ensures.stopped c.the_syllables_are_those_of_the_units.ensures.stop c.body_again.ensures.printed
