use Rattle.gabc_neumes.proofs.glyphs_of_notes.GlyphsAreComputed.{glyphs_are}
use Rattle.gabc_neumes.proofs.laws.glyphs_are_computed.Goals as goal

pub returns : goal.returns
returns c = glyphs_are
