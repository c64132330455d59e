use Rattle.std.proofs.Common.{◌≤◌, ◌+◌, ◌∷◌, length}
use Rattle.std.specs.List.{take_while}
use Rattle.gabc_notes.specs.Items.{AreWithin}
use Rattle.gabc_neumes.specs.Elements.{is_in_segment, notes_in}
use Rattle.gabc_neumes.proofs.glyphs_of_notes.SearchOfGlyph.{Searched}
use Rattle.gabc_neumes.proofs.glyphs.glyph_from.Given as goal

abbrev pub invariant-loop-item : goal.invariant-loop-item
invariant-loop-item l = record {
  searched : Searched (l.fn.first ∷ notes_in l.kept (take_while is_in_segment l.later)) (notes_in l.kept (take_while is_in_segment l.item-iterator)) l.search;
  few : l.search.read + length l.item-iterator ≤ length l.kept;
  within : AreWithin l.kept l.item-iterator;
}
