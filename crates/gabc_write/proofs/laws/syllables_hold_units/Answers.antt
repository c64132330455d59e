use Rattle.gabc_write.proofs.reading_again.ScoreIsPrinted.{score_units_are}
use Rattle.gabc_write.proofs.reading_again.SyllablesHoldUnits.{each_holds, earlier_hold}
use Rattle.gabc_write.proofs.laws.syllables_hold_units.Goals as goal

pub returns-clause-each : goal.returns-clause-each
returns-clause-each c =
    each_holds (score_units_are c.a_body_has_one_cutting.ensures.one c.units_end_at_their_marks.ensures.single c.the_syllables_are_those_of_the_units.ensures.characters c.body_again.ensures.first
    c.the_syllables_are_those_of_the_units.ensures.whole c.the_syllables_are_those_of_the_units.ensures.stopped c.the_syllables_are_those_of_the_units.ensures.stop c.body_again.ensures.printed)
    c.a_syllable_holds_its_parts.ensures.held c.a_syllable_holds_its_parts.ensures.noted c.a_syllable_with_its_parts_holds_a_unit.ensures

pub returns-clause-earlier : goal.returns-clause-earlier
returns-clause-earlier c =
    earlier_hold (score_units_are c.a_body_has_one_cutting.ensures.one c.units_end_at_their_marks.ensures.single c.the_syllables_are_those_of_the_units.ensures.characters c.body_again.ensures.first
    c.the_syllables_are_those_of_the_units.ensures.whole c.the_syllables_are_those_of_the_units.ensures.stopped c.the_syllables_are_those_of_the_units.ensures.stop c.body_again.ensures.printed)
    c.a_syllable_holds_its_parts.ensures.held c.a_syllable_holds_its_parts.ensures.noted c.a_syllable_with_its_parts_holds_a_unit.ensures
