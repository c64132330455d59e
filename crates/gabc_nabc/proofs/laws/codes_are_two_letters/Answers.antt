use Rattle.gabc_nabc.proofs.glyphs.CodesAreTwoLetters.{letters_spell}
use Rattle.gabc_nabc.proofs.laws.codes_are_two_letters.Goals as goal

pub returns : goal.returns
returns c = letters_spell
