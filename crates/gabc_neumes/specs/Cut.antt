-- The glyphs of a segment, as a function of its notes.
use Rattle.std.specs.Prelude.{ℕ, zero, suc, ◌+◌, List, [], ◌∷◌, length, drop, Option, Some, None}
use Rattle.gabc_notes.specs.declared.note.Note.{Note}
use Rattle.gabc_patterns.specs.Reads.{kind_of, longest}
use Rattle.gabc_neumes.specs.Letters.{letters}
use Rattle.gabc_neumes.specs.Table.{neumes}
use Rattle.gabc_neumes.specs.declared.glyph.Glyph.{Glyph}
use Rattle.gabc_neumes.specs.declared.glyph.GlyphKind.{GlyphKind}

-- the kind of the glyph that all of the notes are
abbrev pub kind_by : List Note → Option GlyphKind
kind_by notes = kind_of neumes (letters notes)

-- the longest of the glyphs of at most n notes with which the notes begin: its kind, and its number
-- of notes
abbrev pub longest_glyph : ℕ → List Note → Option (GlyphKind × ℕ)
longest_glyph n notes = longest kind_by n notes

-- at most n glyphs of notes that stand in their segment from that index on, each the longest at its
-- place
abbrev pub glyphs_within : ℕ → ℕ → List Note → List Glyph
glyphs_within zero from notes = []
glyphs_within (suc n) from notes = elim (longest_glyph (length notes) notes) as (λ _. List Glyph) [
  | None ↦ []
  | Some g ↦ record { kind = g.0; first = from; count = g.1 } ∷ glyphs_within n (from + g.1) (drop g.1 notes)
]

-- the glyphs of a segment with these notes
abbrev pub glyphs_of : List Note → List Glyph
glyphs_of notes = glyphs_within (length notes) 0 notes
