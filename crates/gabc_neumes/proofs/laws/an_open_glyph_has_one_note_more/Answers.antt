use Rattle.gabc_neumes.proofs.glyphs_of_notes.OneNoteMore.{one_note_more}
use Rattle.gabc_neumes.proofs.laws.an_open_glyph_has_one_note_more.Goals as goal

pub returns : goal.returns
returns c = one_note_more
