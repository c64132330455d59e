use Rattle.std.proofs.Common.{◌≡◌, ◌≤◌, ◌-◌, ℕ, ◌∷◌, [], ◌++◌, suc, List, length, Some, sym, ap, ◌∙◌, arith}
use Rattle.std.proofs.lemmas.List.Elements.{All-head, All-tail}
use Rattle.gabc_notes.specs.declared.item.Item.{Item}
use Rattle.gabc_neumes.specs.declared.glyph.GlyphKind.{GlyphKind}
use Rattle.gabc_nodes.specs.declared.node.Node.{Node}
use Rattle.gabc_tree.specs.NoteNodes.{through, last_to, glyph_from}
use Rattle.gabc_tree.proofs.NodesOfItems.{through_is_short, last_is_within, glyph_from_note, glyph_is_found, node_of_found}
use Rattle.gabc_tree.proofs.note_nodes.add_glyph.Goals as goal

pub glyph_from-requires-clause-within : goal.glyph_from-requires-clause-within
glyph_from-requires-clause-within c =
    All-tail (λ (i : Item). (i.span.from ≤ i.span.to) × (i.span.to ≤ length c.args.kept.now)) c.args.item c.args.later.now c.requires.within

pub node_at-requires-clause-end : goal.node_at-requires-clause-end
node_at-requires-clause-end c =
    let P = λ (i : Item). (i.span.from ≤ i.span.to) × (i.span.to ≤ length c.args.kept.now) in
    let first = All-head P c.args.item c.args.later.now c.requires.within in
    let later = All-tail P c.args.item c.args.later.now c.requires.within in
    let last = last_is_within c.args.kept.now c.args.item.span.to c.saturating_sub-left.result c.args.later.now first.1 later in
    omega (arith, last)

pub node_at-requires-clause-inner : goal.node_at-requires-clause-inner
node_at-requires-clause-inner c = omega (arith, through_is_short c.saturating_sub-left.result c.args.later.now)

pub returns-clause-node : goal.returns-clause-node
returns-clause-node c =
    let base = c.args.base in
    let kept = c.args.kept.now in
    let i = c.args.item in
    let items = c.args.later.now in
    let out = c.args.out.now.items in
    let g : GlyphKind × ℕ = (c.in-Some-glyph_from.kind, c.in-Some-glyph_from.count) in
    let left : c.saturating_sub-left.result ≡ g.1 - 1 = c.saturating_sub-left.ensures in
    let is : glyph_from kept i items ≡ Some g =
    sym (glyph_from_note kept i items c.in-Some.note (sym c.note_of.ensures ∙ c.in-Some.is)) ∙ (sym c.glyph_from.ensures.glyph ∙ c.in-Some-glyph_from.is) in
    let none : c.args.left ≡ 0 = omega arith in
    let found = glyph_is_found base kept c.args.left i items g none is in
    let node = c.node_at.ensures ∙ node_of_found base g i items c.extent_through-extent.result.items c.extent_through-extent.result.end c.numbers_of_glyph-numbers.result
    (c.extent_through-extent.ensures.items ∙ ap (λ (n : ℕ). suc (length (through n items))) left)
    (c.extent_through-extent.ensures.end ∙ ap (λ (n : ℕ). last_to i.span.to (through n items)) left)
    c.numbers_of_glyph-numbers.ensures in
    c.in_ok-push.ensures.items ∙ (ap (λ (n : Node). out ++ n ∷ []) node ∙ ap (λ (l : List Node). out ++ l) (sym found.node))

pub returns-clause-left : goal.returns-clause-left
returns-clause-left c =
    let kept = c.args.kept.now in
    let i = c.args.item in
    let items = c.args.later.now in
    let g : GlyphKind × ℕ = (c.in-Some-glyph_from.kind, c.in-Some-glyph_from.count) in
    let is : glyph_from kept i items ≡ Some g =
    sym (glyph_from_note kept i items c.in-Some.note (sym c.note_of.ensures ∙ c.in-Some.is)) ∙ (sym c.glyph_from.ensures.glyph ∙ c.in-Some-glyph_from.is) in
    let none : c.args.left ≡ 0 = omega arith in
    c.saturating_sub-left.ensures ∙ sym (glyph_is_found c.args.base kept c.args.left i items g none is).left_is
