use Rattle.gabc_nabc.proofs.glyphs.CodesAreOfGlyphs.{codes_are}
use Rattle.gabc_nabc.proofs.laws.codes_are_of_glyphs.Goals as goal

pub returns : goal.returns
returns c = codes_are
