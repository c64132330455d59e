-- The lines of a snippet's items, as the writer puts them one item at a time.
use Rattle.std.specs.Prelude.{ℕ, zero, suc, ◌-◌, ◌&&◌, List, [], ◌∷◌, ◌++◌, Option, Some, None, not, length, codes, if◌then◌else◌}
use Rattle.gabc_notes.specs.Items.{items_of}
use Rattle.gabc_notes.specs.declared.item.Item.{Item}
use Rattle.gabc_notes.specs.declared.note.Note.{Note}
use Rattle.gabc_neumes.specs.Cut.{longest_glyph}
use Rattle.gabc_neumes.specs.Elements.{is_in_element}
use Rattle.gabc_neumes.specs.InForce.{InForce}
use Rattle.gabc_neumes.specs.declared.glyph.GlyphKind.{GlyphKind}
use Rattle.gabc_neumes.specs.declared.sound.Sound.{Sound}
use Rattle.gabc_write.specs.DumpOfNotes.{notes_after, is_note, line_of_glyph, line_of_note, line_of_item, lines_after}
use Rattle.gabc_write.specs.declared.dump_notes.ItemPlace.{ItemPlace}

-- the first glyph of a segment's notes from a place on: its kind, and how many notes it has
abbrev pub glyph_of : List Note → Option (GlyphKind × ℕ)
glyph_of notes = longest_glyph (length notes) notes

-- the notes of a segment from this one on, before these items
abbrev pub notes_from : List ℕ → Note → List Item → List Note
notes_from kept first after = first ∷ notes_after kept after

-- the first glyph of the notes of the segment at the head of the items
abbrev pub glyph_at : List ℕ → List Item → Option (GlyphKind × ℕ)
glyph_at kept items = glyph_of (notes_after kept items)

-- at a note the line of the glyph that begins with it: one does if none of the notes of the glyph
-- before are left
abbrev pub line_of_next : ℕ → Option (GlyphKind × ℕ) → List ℕ
line_of_next (suc left) g = []
line_of_next zero None = []
line_of_next zero (Some g) = line_of_glyph (record { kind = g.0; first = 0; count = g.1 })

-- how many of the glyph's notes are left after that note
abbrev pub left_after : ℕ → Option (GlyphKind × ℕ) → ℕ
left_after (suc left) g = left
left_after zero None = 0
left_after zero (Some g) = g.1 - 1

-- the lines of an item at a place, with these items after it; `force` is in force before it
abbrev pub lines_at : InForce → List ℕ → ItemPlace → Item → List Item → List ℕ
lines_at force kept place i after =
    (if is_in_element kept i && not place.in_element then codes "element\n" else [])
    ++ ((if is_note i.kind then line_of_next place.left (glyph_at kept (i ∷ after)) else []) ++ line_of_item force kept i)

-- the place after it
abbrev pub place_after_input : List ℕ → ItemPlace → Item → List Item → ItemPlace
place_after_input kept place i after = record {
  in_element = is_in_element kept i;
  left = if is_note i.kind then left_after place.left (glyph_at kept (i ∷ after)) else place.left;
}

-- the lines of all items of a text
abbrev pub lines_of_items : InForce → List ℕ → List ℕ
lines_of_items outset kept = lines_after outset kept [] (items_of kept)

-- the lines of a snippet that is one small pitch, which sounds so
abbrev pub lines_of_pitch : Sound → ℕ → List ℕ
lines_of_pitch sound p = codes "notes:" ++ p ∷ (codes "\nelement\nglyph punctum 1\n" ++ line_of_note sound (p ∷ []))

-- those of one with a sign after it
abbrev pub lines_of_signed : Sound → ℕ → ℕ → List ℕ
lines_of_signed sound p sign =
    codes "notes:" ++ p ∷ sign ∷ (codes "\nelement\nglyph punctum 1\n" ++ line_of_note sound (p ∷ sign ∷ []))
