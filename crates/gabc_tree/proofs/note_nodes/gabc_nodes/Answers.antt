use Rattle.std.proofs.Common.{◌≡◌, ◌≤◌, ◌++◌, List, [], ◌∷◌, length, map, false, sym, ap, ◌∙◌, subst, arith}
use Rattle.std.proofs.lemmas.List.Elements.{All-tail}
use Rattle.gabc_notes.specs.Items.{items_of, AreWithin}
use Rattle.gabc_notes.specs.declared.item.Item.{Item}
use Rattle.gabc_neumes.specs.InForce.{InForce, step_of, in_force_after, passed}
use Rattle.gabc_nodes.specs.declared.node.Node.{Node}
use Rattle.gabc_tree.specs.NoteNodes.{item_nodes}
use Rattle.gabc_tree.specs.machine.NoteNodes.{grouped, nodes_at}
use Rattle.gabc_tree.specs.declared.note_nodes.ItemPlace.{ItemPlace}
use Rattle.gabc_tree.proofs.NodesOfItems.{grouped_nodes, item_step}
use Rattle.gabc_tree.proofs.note_nodes.gabc_nodes.Goals as goal

pub loop-item-init : goal.loop-item-init
loop-item-init c =
    let base = c.args.base in
    let kept = c.args.kept.now in
    let force = c.args.alterations.now in
    let out = c.args.out.now.items in
    let same : c.items_in-items.result ≡ items_of kept = c.items_in-items.ensures.items in
    let whole = grouped_nodes base kept (length (items_of kept)) (items_of kept) (item_nodes base kept false force (items_of kept)) (omega arith) in (
      ap (λ (l : List Item). out ++ grouped base kept 0 l (item_nodes base kept false force l)) same ∙ ap (λ (l : List Node). out ++ l) (sym whole),
      ap (λ (l : List Item). passed force (map (step_of kept) l)) same,
      subst (λ (l : List Item). length l ≤ length kept) (sym same) c.items_in-items.ensures.few,
      subst (AreWithin kept) (sym same) c.items_in-items.ensures.within,
    )

pub add_item-requires-clause-within : goal.add_item-requires-clause-within
add_item-requires-clause-within c = subst (AreWithin c.args.kept.now) c.in-Some.ensures.steps c.loop-item.invariant.3

pub loop-item-preserved : goal.loop-item-preserved
loop-item-preserved c =
    let base = c.args.base in
    let kept = c.args.kept.now in
    let h = c.loop-item.invariant in
    let i = c.in-Some.item in
    let items = c.next.new.self in
    let place = c.loop-item.place in
    let force = c.loop-item.alterations in
    let out = c.loop-item.out.items in
    let comes = c.in-Some.ensures.steps in
    let next : InForce = in_force_after force (step_of kept i ∷ []) in
    let after = c.in_ok-place.place in
    let made = c.in_ok-place.ensures in (
      ap (λ (l : List Node). l ++ grouped base kept after.left items (item_nodes base kept after.inside c.add_item.new.alterations items)) made.nodes
          ∙ (ap (λ (f : InForce). (out ++ nodes_at base kept place force i items) ++ grouped base kept after.left items (item_nodes base kept after.inside f items)) made.alterations
          ∙ (ap (λ (p : ItemPlace). (out ++ nodes_at base kept place force i items) ++ grouped base kept p.left items (item_nodes base kept p.inside next items)) made.place
          ∙ (item_step base kept out place force i items
          ∙ (ap (λ (l : List Item). out ++ grouped base kept place.left l (item_nodes base kept place.inside force l)) (sym comes) ∙ h.0)))),
      ap (λ (f : InForce). passed f (map (step_of kept) items)) made.alterations
          ∙ (c.steps_are_passed_one_by_one.ensures.forth force (step_of kept i ∷ []) (map (step_of kept) items)
          ∙ (ap (λ (l : List Item). passed force (map (step_of kept) l)) (sym comes) ∙ h.1)),
      omega (arith, ap (length {A = Item}) comes, h.2),
      All-tail (λ (j : Item). (j.span.from ≤ j.span.to) × (j.span.to ≤ length kept)) i items (subst (AreWithin kept) comes h.3),
    )
