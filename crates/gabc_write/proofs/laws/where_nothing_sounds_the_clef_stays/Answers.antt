use Rattle.gabc_write.proofs.ClefsStay.{clef_stays}
use Rattle.gabc_write.proofs.laws.where_nothing_sounds_the_clef_stays.Goals as goal

pub returns : goal.returns
returns c outset s silent = clef_stays c.steps_are_passed_one_by_one.ensures.forth outset s silent
