use Rattle.std.proofs.Common.{arith}
use Rattle.gabc_score.proofs.regular_syllables.RegularSyllableIsRead.{unit_placed, syllable_is_read}
use Rattle.gabc_score.proofs.regular_laws.a_regular_syllable_is_read_as_it_stands.Goals as goal

pub returns-clause-characters : goal.returns-clause-characters
returns-clause-characters c = unit_placed

pub returns-clause-events : goal.returns-clause-events
returns-clause-events c lines macros at r xs h = grind (arith, syllable_is_read)
