-- The nodes of a snippet's items, as they are made one item at a time.
use Rattle.std.specs.Prelude.{ℕ, zero, suc, ◌-◌, List, [], ◌∷◌, ◌++◌, ◌&&◌, not, Option, Some, None, if◌then◌else◌}
use Rattle.gabc_notes.specs.declared.item.Item.{Item}
use Rattle.gabc_neumes.specs.declared.glyph.GlyphKind.{GlyphKind}
use Rattle.gabc_neumes.specs.Elements.{is_in_element}
use Rattle.gabc_neumes.specs.InForce.{InForce}
use Rattle.gabc_nodes.specs.declared.node.Node.{Node}
use Rattle.gabc_tree.specs.NoteNodes.{is_note, item_node, glyph_from, glyph_node}
use Rattle.gabc_tree.specs.declared.note_nodes.ItemPlace.{ItemPlace}

-- the node of a glyph, if one begins
abbrev pub node_of_glyph : ℕ → Option (GlyphKind × ℕ) → Item → List Item → List Node
node_of_glyph base None i items = []
node_of_glyph base (Some g) i items = glyph_node base g i items ∷ []

-- that of the glyph that begins with the item: one does if no notes of the one before are left
abbrev pub next_glyph : ℕ → List ℕ → ℕ → Item → List Item → List Node
next_glyph base kept zero i items = node_of_glyph base (glyph_from kept i items) i items
next_glyph base kept (suc left) i items = []

abbrev pub notes_after_first : Option (GlyphKind × ℕ) → ℕ
notes_after_first None = 0
notes_after_first (Some g) = g.1 - 1

-- the number of notes of the glyph that are left after the item
abbrev pub left_after : List ℕ → ℕ → Item → List Item → ℕ
left_after kept zero i items = notes_after_first (glyph_from kept i items)
left_after kept (suc left) i items = if is_note i.kind then left else suc left

-- the nodes of the items, with those of glyphs
abbrev pub grouped : ℕ → List ℕ → ℕ → List Item → List Node → List Node
grouped base kept left [] nodes = []
grouped base kept left (i ∷ items) [] = []
grouped base kept left (i ∷ items) (x ∷ nodes) =
    next_glyph base kept left i items ++ x ∷ grouped base kept (left_after kept left i items) items nodes

-- the nodes of an item at a place, with these items after it; `force` is in force before it
abbrev pub nodes_at : ℕ → List ℕ → ItemPlace → InForce → Item → List Item → List Node
nodes_at base kept place force i items =
    next_glyph base kept place.left i items ++ item_node base kept (is_in_element kept i && not place.inside) force i ∷ []

-- the place after it
abbrev pub place_after : List ℕ → ItemPlace → Item → List Item → ItemPlace
place_after kept place i items = record { inside = is_in_element kept i; left = left_after kept place.left i items }
