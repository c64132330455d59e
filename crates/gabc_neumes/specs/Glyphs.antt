-- Which lists of notes are glyphs, and the cut of a segment into glyphs.
use Rattle.std.specs.Prelude.{◌+◌, List, map, slice_range, length}
use Rattle.gabc_notes.specs.declared.note.Note.{Note}
use Rattle.gabc_patterns.specs.LongestItems.{IsItemOf, IsReadingBy}
use Rattle.gabc_patterns.specs.Items.{ItemSpan, FollowOn}
use Rattle.gabc_neumes.specs.Letters.{letters}
use Rattle.gabc_neumes.specs.Table.{neumes}
use Rattle.gabc_neumes.specs.declared.glyph.Glyph.{Glyph}
use Rattle.gabc_neumes.specs.declared.glyph.GlyphKind.{GlyphKind}

-- the notes are a glyph of that kind: a row of it spells their letters
abbrev pub HasKind : GlyphKind → List Note → Type 0
HasKind kind notes = IsItemOf neumes kind (letters notes)

-- a glyph's kind, and where it begins and ends in the segment
abbrev pub piece_of : Glyph → ItemSpan GlyphKind
piece_of g = (g.kind, g.first, g.first + g.count)

-- a glyph's kind and its notes
abbrev pub read_as : List Note → Glyph → GlyphKind × List Note
read_as notes g = (g.kind, slice_range notes g.first (g.first + g.count))

-- The glyphs join to the notes of the segment, each the longest that begins at its place.
pub record AreGlyphsOf (notes : List Note) (glyphs : List Glyph) : Type 0 where
  pub reads : IsReadingBy HasKind (map (read_as notes) glyphs) notes
  pub joined : FollowOn 0 (map piece_of glyphs) (length notes)
