-- The first note or clef among items.
use Rattle.std.specs.Prelude.{List, [], ◌∷◌, Bool, true, false, cond, Option, Some, None}
use Rattle.gabc_notes.specs.declared.item.Item.{Item}
use Rattle.gabc_notes.specs.declared.item.ItemKind.{ItemKind}
use Rattle.gabc_notes.specs.declared.item.ItemKind.TheVariants.{Note, Clef}

-- a custos is no note
abbrev pub is_note_or_clef : ItemKind → Bool
is_note_or_clef Note = true
is_note_or_clef Clef = true
is_note_or_clef _ = false

-- the kind of the first of these items that is a note or a clef
abbrev pub first_note_or_clef : List Item → Option ItemKind
first_note_or_clef [] = None
first_note_or_clef (i ∷ items) = cond (is_note_or_clef i.kind) (Some i.kind) (first_note_or_clef items)
