use Rattle.gabc_neumes.proofs.glyphs_of_notes.GlyphsAreOne.{glyphs_are_one}
use Rattle.gabc_neumes.proofs.laws.glyphs_are_one.Goals as goal

pub returns : goal.returns
returns c = glyphs_are_one
