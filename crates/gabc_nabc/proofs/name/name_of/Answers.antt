use Rattle.std.proofs.Common.{arith}
use Rattle.gabc_nabc.proofs.glyphs.NameOfFirstRow.{none_of, no_letters, one_letter, two_letters, three_letters}
use Rattle.gabc_nabc.proofs.name.name_of.Goals as goal
use Rattle.gabc_nabc.proofs.name.name_of.Goals.{in_default-via-in-Some+in-Some+in_default, in_default-via-in-Some+in_default, in_default-via-in_default}

pub returns-in-Some-Some-None : goal.returns-in-Some-Some-None
returns-in-Some-Some-None c = grind (arith, two_letters)

pub returns-in_default : goal.returns-in_default
returns-in_default c = grind (arith, three_letters, one_letter, none_of, no_letters)
