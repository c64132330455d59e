-- The nodes of a snippet of notes lie in one another.
use Rattle.std.proofs.Common.{◌≡◌, ◌≤◌, ℕ, zero, suc, ◌+◌, ◌-◌, ◌++◌, Bool, false, List, [], ◌∷◌, length, take, drop, length-drop, Option, Some, None, refl, ap, sym, subst, arith, encode_utf8_all, if◌then◌else◌}
use Rattle.std.specs.Str.{IsUtf8, chars}
use Rattle.std.proofs.lemmas.List.Elements.{All-head, All-tail}
use Rattle.gabc_patterns.specs.Reads.{items_by}
use Rattle.gabc_notes.specs.Items.{AreWithin, placed_items, items_of}
use Rattle.gabc_notes.specs.Table.{gabc}
use Rattle.gabc_notes.specs.declared.item.Item.{Item}
use Rattle.gabc_notes.specs.declared.item.ItemKind.{ItemKind}
use Rattle.gabc_notes.specs.declared.item.ItemKind.TheVariants as item
use Rattle.gabc_notes.proofs.items_of_text.ItemsByBytes.{items_lie_in}
use Rattle.gabc_neumes.specs.Elements.{is_in_element}
use Rattle.gabc_neumes.specs.InForce.{InForce, step_of, in_force_after}
use Rattle.gabc_neumes.specs.declared.glyph.GlyphKind.{GlyphKind}
use Rattle.gabc_nodes.specs.declared.node.Node.{Node}
use Rattle.gabc_tree.specs.Nested.{AreNested}
use Rattle.gabc_tree.specs.NoteNodes.{kind_of_item, is_note, through, last_to, later_items, glyph_from, glyph_node, glyph_nodes, item_nodes, gabc_nodes}
use Rattle.gabc_tree.specs.Placed.{is_snippet}
use Rattle.gabc_tree.proofs.KeptNodes.{AreKept, none, part, are_nested}
use Rattle.gabc_tree.proofs.LongItems.{AreLong, long_bytes, items_long}

-- items that stand one after the other from that byte on
abbrev Follow : ℕ → List Item → Type 0
Follow at [] = Unit {0}
Follow at (i ∷ items) = (i.span.from ≡ at) × (at + 1 ≤ i.span.to) × Follow i.span.to items

placed_follow : (at : ℕ) (texts : List (ItemKind × List ℕ)) → AreLong texts → Follow at (placed_items at texts)
placed_follow at [] h = tt
placed_follow at (t ∷ texts) h = let n = long_bytes t.1 h.0 in (refl, omega (arith, n), placed_follow (at + length (encode_utf8_all t.1)) texts h.1)

-- A node of that item, in which none lies.
record IsLeaf (base : ℕ) (i : Item) (x : Node) : Type 0 where
  begin_is : x.begin ≡ base + i.span.from
  end_is : x.end ≡ base + i.span.to
  none : 0 ≡ x.inner
  no_snippet : is_snippet x.kind ≡ false

-- nodes of these items, one each
abbrev AreLeaves : ℕ → List Item → List Node → Type 0
AreLeaves base [] [] = Unit {0}
AreLeaves base (i ∷ items) (x ∷ nodes) = IsLeaf base i x × AreLeaves base items nodes
AreLeaves base _ _ = ⊥

kind_is : (k : ItemKind) → is_snippet (kind_of_item k) ≡ false
kind_is item.Note = refl
kind_is item.Alteration = refl
kind_is item.Clef = refl
kind_is item.Bar = refl
kind_is item.Spacing = refl
kind_is item.Custos = refl
kind_is item.Break = refl
kind_is item.Attribute = refl
kind_is item.Fusion = refl

items_are_leaves : (base : ℕ) (kept : List ℕ) (inside : Bool) (force : InForce) (items : List Item) → AreLeaves base items (item_nodes base kept inside force items)
items_are_leaves base kept inside force [] = tt
items_are_leaves base kept inside force (i ∷ items) =
    (record { begin_is = refl; end_is = refl; none = refl; no_snippet = kind_is i.kind }, items_are_leaves base kept (is_in_element kept i) (in_force_after force (step_of kept i ∷ [])) items)

-- a leaf, and what stands after it
leaf_first : (last base at to : ℕ) (i : Item) (x : Node) (after : List Node) → IsLeaf base i x → i.span.from ≡ at → at + 1 ≤ i.span.to
    → AreKept last (base + i.span.to) to after → AreKept last (base + at) to (x ∷ after)
leaf_first last base at to i x after leaf from order rest =
    let begin_is = leaf.begin_is in
    let end_is = leaf.end_is in
    part {inside = []} (omega (arith, from, begin_is)) (omega (arith, from, begin_is, end_is, order)) leaf.no_snippet leaf.none (none (omega (arith, from, begin_is, end_is, order)))
    (subst (λ (e : ℕ). AreKept last e to after) (sym end_is) rest)

leaves_kept : (last base at to : ℕ) (items : List Item) (nodes : List Node) → AreLeaves base items nodes → Follow at items → last_to at items ≤ to
    → AreKept last (base + at) (base + to) nodes
leaves_kept last base at to [] [] l f h = none (omega (arith, h))
leaves_kept last base at to [] (x ∷ nodes) l f h = absurd l
leaves_kept last base at to (i ∷ items) [] l f h = absurd l
leaves_kept last base at to (i ∷ items) (x ∷ nodes) l f h =
    leaf_first last base at (base + to) i x nodes l.0 f.0 f.1 (leaves_kept last base i.span.to to items nodes l.1 f.2 h)

-- The items through the nth note, and those after them, which begin at that byte.
record Parted (base at k : ℕ) (first items : List Item) (nodes : List Node) : Type 0 where
  first_leaves : AreLeaves base first (take k nodes)
  first_follow : Follow at first
  size : length (take k nodes) ≡ k
  leaves : AreLeaves base (drop k items) (drop k nodes)
  follow : Follow (last_to at first) (drop k items)
  last : last_to (last_to at first) (drop k items) ≡ last_to at items

parted : (base n at : ℕ) (items : List Item) (nodes : List Node) → AreLeaves base items nodes → Follow at items
    → Parted base at (length (through n items)) (through n items) items nodes
parted base zero at items nodes l f = record { first_leaves = tt; first_follow = tt; size = refl; leaves = l; follow = f; last = refl }
parted base (suc n) at [] nodes l f = record { first_leaves = tt; first_follow = tt; size = refl; leaves = l; follow = f; last = refl }
parted base (suc n) at (i ∷ items) [] l f = absurd l
parted base (suc n) at (i ∷ items) (x ∷ nodes) l f =
    let p = parted base (if is_note i.kind then n else suc n) i.span.to items nodes l.1 f.2 in
    record {
      first_leaves = (l.0, p.first_leaves);
      first_follow = (f.0, f.1, p.first_follow);
      size = ap suc p.size;
      leaves = p.leaves;
      follow = p.follow;
      last = p.last;
    }

follow_order : (at : ℕ) (items : List Item) → Follow at items → at ≤ last_to at items
follow_order at [] f = omega arith
follow_order at (i ∷ items) f = let h = follow_order i.span.to items f.2 in omega (arith, f.1, h)

glyphs_kept : (last base : ℕ) (kept : List ℕ) (n at to : ℕ) (items : List Item) (nodes : List Node) → length items ≤ n → AreLeaves base items nodes → Follow at items
    → last_to at items ≤ to → AreKept last (base + at) (base + to) (glyph_nodes base kept n items nodes)
glyphs_kept last base kept zero at to [] nodes s l f h = none (omega (arith, h))
glyphs_kept last base kept zero at to (i ∷ items) nodes s l f h = absurd (omega (arith, s))
glyphs_kept last base kept (suc n) at to [] nodes s l f h = none (omega (arith, h))
glyphs_kept last base kept (suc n) at to (i ∷ items) [] s l f h = absurd l
glyphs_kept last base kept (suc n) at to (i ∷ items) (x ∷ nodes) s l f h =
    go (glyph_from kept i items) (λ k a short leaves follow ends. glyphs_kept last base kept n a to (drop k items) (drop k nodes) short leaves follow ends)
  where
    go : (o : Option (GlyphKind × ℕ))
        → ((k a : ℕ) → length (drop k items) ≤ n → AreLeaves base (drop k items) (drop k nodes) → Follow a (drop k items) → last_to a (drop k items) ≤ to
        → AreKept last (base + a) (base + to) (glyph_nodes base kept n (drop k items) (drop k nodes)))
        → AreKept last (base + at) (base + to) (elim o as (λ _. List Node) [
          | None ↦ x ∷ glyph_nodes base kept n items nodes
          | Some g ↦ glyph_node base g i items ∷ x ∷ (take (length (later_items g items)) nodes
              ++ glyph_nodes base kept n (drop (length (later_items g items)) items) (drop (length (later_items g items)) nodes))
        ])
    go None later =
        leaf_first last base at (base + to) i x (glyph_nodes base kept n items nodes) l.0 f.0 f.1 (later 0 i.span.to (omega (arith, s)) l.1 f.2 h)
    go (Some g) later =
        let k : ℕ = length (later_items g items) in
        let p = parted base (g.1 - 1) i.span.to items nodes l.1 f.2 in
        let end : ℕ = last_to i.span.to (later_items g items) in
        let past = follow_order i.span.to (later_items g items) p.first_follow in
        let short : length (drop k items) ≤ n = omega (arith, s, length-drop k items) in
        let ends : last_to end (drop k items) ≤ to = omega (arith, p.last, h) in
        part {n = glyph_node base g i items} {inside = x ∷ take k nodes} {after = glyph_nodes base kept n (drop k items) (drop k nodes)}
        (omega (arith, f.0)) (omega (arith, f.0, f.1, past)) refl (ap suc p.size)
        (leaf_first (base + end) base i.span.from (base + end) i x (take k nodes) l.0 refl (omega (arith, f.0, f.1))
        (leaves_kept (base + end) base i.span.to end (later_items g items) (take k nodes) p.first_leaves p.first_follow (omega arith)))
        (later k end short p.leaves p.follow ends)

-- the last item ends in the text
last_lies : (kept : List ℕ) (at : ℕ) (items : List Item) → at ≤ length kept → AreWithin kept items → last_to at items ≤ length kept
last_lies kept at [] h w = h
last_lies kept at (i ∷ items) h w =
    let P = λ (i : Item). (i.span.from ≤ i.span.to) × (i.span.to ≤ length kept) in
    last_lies kept i.span.to items (All-head P i items w).1 (All-tail P i items w)

pub notes_are_kept : (last base : ℕ) (force : InForce) (kept : List ℕ) → IsUtf8 kept → AreKept last base (base + length kept) (gabc_nodes base force kept)
notes_are_kept last base force kept u =
    let items : List Item = items_of kept in
    let all : AreKept last (base + 0) (base + length kept) (gabc_nodes base force kept) =
    glyphs_kept last base kept (length items) 0 (length kept) items (item_nodes base kept false force items) (omega arith)
    (items_are_leaves base kept false force items) (placed_follow 0 (items_by gabc (chars kept)) (items_long gabc (chars kept))) (last_lies kept 0 items (omega arith) (items_lie_in kept u)) in
    let same : base + 0 ≡ base = omega arith in
    subst (λ (from : ℕ). AreKept last from (base + length kept) (gabc_nodes base force kept)) same all

pub notes_are_nested : (base : ℕ) (force : InForce) (kept : List ℕ) → IsUtf8 kept → AreNested base (base + length kept) (gabc_nodes base force kept)
notes_are_nested base force kept u = are_nested 0 base (base + length kept) (gabc_nodes base force kept) (notes_are_kept 0 base force kept u)
