-- The nodes of a snippet's items, made one item at a time.
use Rattle.std.proofs.Common.{◌≡◌, ◌≤◌, ◌<◌, ℕ, zero, suc, ◌-◌, ◌++◌, ◌&&◌, not, Bool, true, false, cond, List, [], ◌∷◌, length, take, drop, length-drop, Option, Some, None, refl, ap, sym, ◌∙◌, append_assoc, arith, if◌then◌else◌}
use Rattle.std.specs.List.{take_while}
use Rattle.std.proofs.lemmas.List.Elements.{All-head, All-tail}
use Rattle.std.proofs.lemmas.List.Sums.{take_while-cons}
use Rattle.gabc_places.specs.declared.place.Span.{Span}
use Rattle.gabc_notes.specs.Items.{AreWithin, bytes_of}
use Rattle.gabc_notes.specs.Notes.{note_by, note_in}
use Rattle.gabc_notes.specs.declared.item.Item.{Item}
use Rattle.gabc_notes.specs.declared.item.ItemKind.{ItemKind}
use Rattle.gabc_notes.specs.declared.item.ItemKind.TheVariants as item
use Rattle.gabc_notes.specs.declared.note.Note.{Note}
use Rattle.gabc_neumes.specs.Cut.{longest_glyph}
use Rattle.gabc_neumes.specs.Elements.{joins_segment, is_in_element, is_in_segment, notes_in}
use Rattle.gabc_neumes.specs.InForce.{InForce, step_of, in_force_after}
use Rattle.gabc_neumes.specs.declared.glyph.GlyphKind.{GlyphKind}
use Rattle.gabc_nodes.specs.declared.kind.Kind.TheVariants as kind
use Rattle.gabc_nodes.specs.declared.node.Node.{Node}
use Rattle.gabc_tree.specs.Numbers.{glyph_numbers}
use Rattle.gabc_tree.specs.NoteNodes.{is_note, node_at, through, last_to, later_items, glyph_at, glyph_from, glyph_node, glyph_nodes, item_node, item_nodes}
use Rattle.gabc_tree.specs.machine.NoteNodes.{node_of_glyph, next_glyph, notes_after_first, left_after, grouped, nodes_at, place_after}
use Rattle.gabc_tree.specs.declared.note_nodes.ItemPlace.{ItemPlace}
use Rattle.gabc_tree.specs.declared.numbers.Numbers.{Numbers}

-- the items through the nth note, if some is to come
pub through_item : (n : ℕ) (i : Item) (items : List Item) → 0 < n
    → through n (i ∷ items) ≡ i ∷ through (if is_note i.kind then n - 1 else n) items
through_item zero i items h = absurd (omega arith)
through_item (suc n) i items h = go (is_note i.kind)
  where
    less : n ≡ suc n - 1
    less = omega arith

    go : (b : Bool) → i ∷ through (if b then n else suc n) items ≡ i ∷ through (if b then suc n - 1 else suc n) items
    go true = ap (λ (m : ℕ). i ∷ through m items) less
    go false = refl

-- within a glyph its items come first
within : (base : ℕ) (kept : List ℕ) (left : ℕ) (items : List Item) (nodes : List Node)
    → grouped base kept left items nodes
    ≡ take (length (through left items)) nodes ++ grouped base kept 0 (drop (length (through left items)) items) (drop (length (through left items)) nodes)
within base kept zero items nodes = refl
within base kept (suc left) [] nodes = refl
within base kept (suc left) (i ∷ items) [] = none (length (through (if is_note i.kind then left else suc left) items)) items
  where
    none : (k : ℕ) (items : List Item) → [] ≡ grouped base kept 0 (drop k items) []
    none zero [] = refl
    none zero (i ∷ items) = refl
    none (suc k) [] = refl
    none (suc k) (i ∷ items) = none k items
within base kept (suc left) (i ∷ items) (x ∷ nodes) =
    ap (λ (l : List Node). x ∷ l) (within base kept (if is_note i.kind then left else suc left) items nodes)

-- the nodes with those of glyphs are those of the definition
pub grouped_nodes : (base : ℕ) (kept : List ℕ) (n : ℕ) (items : List Item) (nodes : List Node) → length items ≤ n
    → glyph_nodes base kept n items nodes ≡ grouped base kept 0 items nodes
grouped_nodes base kept zero [] nodes h = refl
grouped_nodes base kept zero (i ∷ items) nodes h = absurd (omega arith)
grouped_nodes base kept (suc n) [] nodes h = refl
grouped_nodes base kept (suc n) (i ∷ items) [] h = refl
grouped_nodes base kept (suc n) (i ∷ items) (x ∷ nodes) h =
    go (glyph_from kept i items) (λ k. grouped_nodes base kept n (drop k items) (drop k nodes) (omega (arith, length-drop k items)))
  where
    go : (o : Option (GlyphKind × ℕ)) → ((k : ℕ) → glyph_nodes base kept n (drop k items) (drop k nodes) ≡ grouped base kept 0 (drop k items) (drop k nodes))
        → (elim o as (λ _. List Node) [
          | None ↦ x ∷ glyph_nodes base kept n items nodes
          | Some g ↦ glyph_node base g i items ∷ x ∷ (take (length (later_items g items)) nodes
              ++ glyph_nodes base kept n (drop (length (later_items g items)) items) (drop (length (later_items g items)) nodes))
        ]) ≡ node_of_glyph base o i items ++ x ∷ grouped base kept (notes_after_first o) items nodes
    go None same = ap (λ (l : List Node). x ∷ l) (same 0)
    go (Some g) same =
        let k : ℕ = length (later_items g items) in
        ap (λ (l : List Node). glyph_node base g i items ∷ x ∷ l)
        (ap (λ (l : List Node). take k nodes ++ l) (same k) ∙ sym (within base kept (g.1 - 1) items nodes))

-- ---- the items of a glyph lie in the text

pub through_is_short : (n : ℕ) (items : List Item) → length (through n items) ≤ length items
through_is_short zero items = omega arith
through_is_short (suc n) [] = omega arith
through_is_short (suc n) (i ∷ items) =
    let later = through_is_short (if is_note i.kind then n else suc n) items in omega (arith, later)

pub last_is_within : (kept : List ℕ) (to n : ℕ) (items : List Item) → to ≤ length kept → AreWithin kept items → last_to to (through n items) ≤ length kept
last_is_within kept to zero items h w = h
last_is_within kept to (suc n) [] h w = h
last_is_within kept to (suc n) (i ∷ items) h w =
    let P = λ (i : Item). (i.span.from ≤ i.span.to) × (i.span.to ≤ length kept) in
    last_is_within kept i.span.to (if is_note i.kind then n else suc n) items (All-head P i items w).1 (All-tail P i items w)

-- ---- the glyph that begins with a note

kind_of_note : (k : ItemKind) (span : Span) (t : List ℕ) (n : Note) → note_by k span t ≡ Some n → k ≡ item.Note
kind_of_note item.Note span t n e = refl
kind_of_note item.Alteration span t n e = absurd cc
kind_of_note item.Clef span t n e = absurd cc
kind_of_note item.Bar span t n e = absurd cc
kind_of_note item.Spacing span t n e = absurd cc
kind_of_note item.Custos span t n e = absurd cc
kind_of_note item.Break span t n e = absurd cc
kind_of_note item.Attribute span t n e = absurd cc
kind_of_note item.Fusion span t n e = absurd cc

note_first : (kept : List ℕ) (i : Item) (items : List Item) (n : Note) → note_in kept i ≡ Some n → notes_in kept (i ∷ items) ≡ n ∷ notes_in kept items
note_first kept i items n e = rw (e) refl

pub glyph_from_note : (kept : List ℕ) (i : Item) (items : List Item) (n : Note) → note_in kept i ≡ Some n
    → let notes = n ∷ notes_in kept (take_while is_in_segment items) in longest_glyph (length notes) notes ≡ glyph_from kept i items
glyph_from_note kept i items n e =
    let k : i.kind ≡ item.Note = kind_of_note i.kind i.span (bytes_of kept i) n e in
    let segment : is_in_segment i ≡ true = ap joins_segment k in
    let more : take_while is_in_segment (i ∷ items) ≡ i ∷ take_while is_in_segment items =
    take_while-cons is_in_segment i items ∙ ap (λ (b : Bool). cond b (i ∷ take_while is_in_segment items) []) segment in
    let notes : notes_in kept (take_while is_in_segment (i ∷ items)) ≡ n ∷ notes_in kept (take_while is_in_segment items) =
    ap (notes_in kept) more ∙ note_first kept i (take_while is_in_segment items) n e in
    ap (λ (l : List Note). longest_glyph (length l) l) (sym notes) ∙ sym (ap (λ (k : ItemKind). if is_note k then glyph_at kept (i ∷ items) else None) k)

-- What a glyph that is found says.
pub record IsFound (base : ℕ) (kept : List ℕ) (left : ℕ) (i : Item) (items : List Item) (g : GlyphKind × ℕ) : Type 0 where
  pub node : next_glyph base kept left i items ≡ glyph_node base g i items ∷ []
  pub left_is : left_after kept left i items ≡ g.1 - 1

pub glyph_is_found : (base : ℕ) (kept : List ℕ) (left : ℕ) (i : Item) (items : List Item) (g : GlyphKind × ℕ)
    → left ≡ 0 → glyph_from kept i items ≡ Some g → IsFound base kept left i items g
glyph_is_found base kept zero i items g z e = record {
  node = ap (λ (o : Option (GlyphKind × ℕ)). node_of_glyph base o i items) e;
  left_is = ap notes_after_first e;
}
glyph_is_found base kept (suc left) i items g z e = absurd (omega arith)

pub node_of_found : (base : ℕ) (g : GlyphKind × ℕ) (i : Item) (items : List Item) (count end : ℕ) (n : Numbers)
    → count ≡ suc (length (through (g.1 - 1) items)) → end ≡ last_to i.span.to (through (g.1 - 1) items) → n ≡ glyph_numbers g.0 g.1
    → node_at base (record { from = i.span.from; to = end }) count kind.Glyph n ≡ glyph_node base g i items
node_of_found base g i items count end n c e s =
    ap (λ (count : ℕ). node_at base (record { from = i.span.from; to = end }) count kind.Glyph n) c
    ∙ (ap (λ (end : ℕ). node_at base (record { from = i.span.from; to = end }) (suc (length (through (g.1 - 1) items))) kind.Glyph n) e
    ∙ ap (λ (n : Numbers). node_at base (record { from = i.span.from; to = last_to i.span.to (through (g.1 - 1) items) }) (suc (length (through (g.1 - 1) items))) kind.Glyph n) s)

-- ---- an item's step

-- what is added with an item, before what is to come
pub item_step : (base : ℕ) (kept : List ℕ) (out : List Node) (place : ItemPlace) (force : InForce) (i : Item) (items : List Item)
    → (out ++ nodes_at base kept place force i items)
    ++ grouped base kept (place_after kept place i items).left items
    (item_nodes base kept (place_after kept place i items).inside (in_force_after force (step_of kept i ∷ [])) items)
    ≡ out ++ grouped base kept place.left (i ∷ items) (item_nodes base kept place.inside force (i ∷ items))
item_step base kept out place force i items =
    let after = place_after kept place i items in
    let glyph : List Node = next_glyph base kept place.left i items in
    let later : List Node = grouped base kept after.left items (item_nodes base kept after.inside (in_force_after force (step_of kept i ∷ [])) items) in
    let here : List Node = nodes_at base kept place force i items in
    append_assoc out here later ∙ ap (λ (l : List Node). out ++ l) (append_assoc glyph (item_node base kept (is_in_element kept i && not place.inside) force i ∷ []) later)
