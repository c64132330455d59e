use Rattle.std.proofs.Common.{arith}
use Rattle.gabc_body.proofs.syllables_of_units.UnitGivesOneSyllable.{unit_warns, one_syllable}
use Rattle.gabc_body.proofs.unit_laws.a_unit_gives_one_syllable.Goals as goal

pub returns-clause-given : goal.returns-clause-given
returns-clause-given c lines macros at u units last before fits cuts since = grind (arith, one_syllable)

pub returns-clause-warns : goal.returns-clause-warns
returns-clause-warns c lines macros at u units last fits cuts h k = grind (arith, unit_warns)
