-- The nodes of a snippet of GABC in a kept text: its items in order, each a node, and before those
-- of a glyph the glyph's.
use Rattle.std.specs.Prelude.{ℕ, zero, suc, ◌+◌, ◌-◌, List, [], ◌∷◌, ◌++◌, length, take, drop, Bool, true, false, not, ◌&&◌, Option, Some, None, if◌then◌else◌}
use Rattle.std.specs.List.{take_while}
use Rattle.gabc_places.specs.declared.place.Span.{Span}
use Rattle.gabc_notes.specs.Items.{items_of}
use Rattle.gabc_notes.specs.declared.item.Item.{Item}
use Rattle.gabc_notes.specs.declared.item.ItemKind.{ItemKind}
use Rattle.gabc_notes.specs.declared.item.ItemKind.TheVariants as item
use Rattle.gabc_neumes.specs.Cut.{longest_glyph}
use Rattle.gabc_neumes.specs.Elements.{is_in_element, is_in_segment, notes_in}
use Rattle.gabc_neumes.specs.InForce.{InForce, step_of, in_force_after}
use Rattle.gabc_neumes.specs.declared.glyph.GlyphKind.{GlyphKind}
use Rattle.gabc_nodes.specs.declared.kind.Kind.{Kind}
use Rattle.gabc_nodes.specs.declared.kind.Kind.TheVariants as kind
use Rattle.gabc_nodes.specs.declared.node.Node.{Node}
use Rattle.gabc_tree.specs.Numbers.{item_numbers, glyph_numbers}
use Rattle.gabc_tree.specs.declared.numbers.Numbers.{Numbers}

-- ---- the nodes of items

abbrev pub kind_of_item : ItemKind → Kind
kind_of_item item.Note = kind.Note
kind_of_item item.Alteration = kind.Alteration
kind_of_item item.Clef = kind.Clef
kind_of_item item.Bar = kind.Bar
kind_of_item item.Spacing = kind.Spacing
kind_of_item item.Custos = kind.Custos
kind_of_item item.Break = kind.LineBreak
kind_of_item item.Attribute = kind.Attribute
kind_of_item item.Fusion = kind.Fusion

-- a node of a kept text whose bytes count from base on
abbrev pub node_at : ℕ → Span → ℕ → Kind → Numbers → Node
node_at base s inner k n = record { begin = base + s.from; end = base + s.to; inner = inner; kind = k; a = n.a; b = n.b; c = n.c }

abbrev pub item_node : ℕ → List ℕ → Bool → InForce → Item → Node
item_node base kept begins force i = node_at base i.span 0 (kind_of_item i.kind) (item_numbers force kept begins i)

-- The nodes of the items, one each. Before them this is in force, and inside says whether the item
-- before them is part of an element: an item of an element begins it if the one before is none.
abbrev pub item_nodes : ℕ → List ℕ → Bool → InForce → List Item → List Node
item_nodes base kept inside force [] = []
item_nodes base kept inside force (i ∷ items) =
    item_node base kept (is_in_element kept i && not inside) force i
    ∷ item_nodes base kept (is_in_element kept i) (in_force_after force (step_of kept i ∷ [])) items

-- ---- the nodes of glyphs

abbrev pub is_note : ItemKind → Bool
is_note item.Note = true
is_note _ = false

-- the items through the nth note
abbrev pub through : ℕ → List Item → List Item
through zero items = []
through (suc n) [] = []
through (suc n) (i ∷ items) = i ∷ through (if is_note i.kind then n else suc n) items

-- the byte after the last of the items, or that byte
abbrev pub last_to : ℕ → List Item → ℕ
last_to to [] = to
last_to to (i ∷ items) = last_to i.span.to items

-- the first glyph of the segment at the head of the items: its kind, and the number of its notes
abbrev pub glyph_at : List ℕ → List Item → Option (GlyphKind × ℕ)
glyph_at kept items = let notes = notes_in kept (take_while is_in_segment items) in longest_glyph (length notes) notes

-- the glyph that begins with an item, if that is a note; these items come after it
abbrev pub glyph_from : List ℕ → Item → List Item → Option (GlyphKind × ℕ)
glyph_from kept i items = if is_note i.kind then glyph_at kept (i ∷ items) else None

-- the items of a glyph with that first item, without it
abbrev pub later_items : GlyphKind × ℕ → List Item → List Item
later_items g items = through (g.1 - 1) items

-- the node of the glyph that begins with an item, in which those of its items lie
abbrev pub glyph_node : ℕ → GlyphKind × ℕ → Item → List Item → Node
glyph_node base g i items =
    node_at base (record { from = i.span.from; to = last_to i.span.to (later_items g items) })
    (suc (length (later_items g items))) kind.Glyph (glyph_numbers g.0 g.1)

-- Of at most n items and their nodes: each glyph's node, then those of its items, and between
-- glyphs those of the other items.
abbrev pub glyph_nodes : ℕ → List ℕ → ℕ → List Item → List Node → List Node
glyph_nodes base kept zero items nodes = []
glyph_nodes base kept (suc n) [] nodes = []
glyph_nodes base kept (suc n) (i ∷ items) [] = []
glyph_nodes base kept (suc n) (i ∷ items) (x ∷ nodes) = elim (glyph_from kept i items) as (λ _. List Node) [
  | None ↦ x ∷ glyph_nodes base kept n items nodes
  | Some g ↦ let count = length (later_items g items) in
      glyph_node base g i items ∷ x ∷ (take count nodes ++ glyph_nodes base kept n (drop count items) (drop count nodes))
]

-- ---- the nodes of a snippet

-- the nodes of a snippet whose bytes count from base on, if this is in force before it
abbrev pub gabc_nodes : ℕ → InForce → List ℕ → List Node
gabc_nodes base force kept =
    let items = items_of kept in glyph_nodes base kept (length items) items (item_nodes base kept false force items)
