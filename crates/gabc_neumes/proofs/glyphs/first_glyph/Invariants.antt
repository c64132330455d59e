use Rattle.std.proofs.Common.{◌≡◌, drop}
use Rattle.gabc_neumes.proofs.glyphs_of_notes.SearchOfGlyph.{Searched}
use Rattle.gabc_neumes.proofs.glyphs.first_glyph.Given as goal

abbrev pub invariant-loop-note : goal.invariant-loop-note
invariant-loop-note l = record {
  searched : Searched l.notes (drop l.note-index l.notes) l.search;
  read : l.search.read ≡ l.note-index;
}
