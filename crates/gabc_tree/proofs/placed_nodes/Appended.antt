-- Nodes placed one after the other, in two parts.
use Rattle.std.proofs.Common.{◌≡◌, ◌++◌, List, [], ◌∷◌, refl, sym, ap, ◌∙◌, append_assoc}
use Rattle.gabc_nodes.specs.declared.node.Node.{Node}
use Rattle.gabc_tree.specs.Placed.{Reach, placed_from, reach_after, reach_past, nodes_at}

pub placed_both : (r : Reach) (ns more : List Node) → placed_from r (ns ++ more) ≡ placed_from r ns ++ placed_from (reach_after r ns) more
placed_both r [] more = refl
placed_both r (n ∷ ns) more =
    ap (λ (ms : List Node). nodes_at r n ++ ms) (placed_both (reach_past r n) ns more)
    ∙ sym (append_assoc (nodes_at r n) (placed_from (reach_past r n) ns) (placed_from (reach_after (reach_past r n) ns) more))

pub reach_both : (r : Reach) (ns more : List Node) → reach_after r (ns ++ more) ≡ reach_after (reach_after r ns) more
reach_both r [] more = refl
reach_both r (n ∷ ns) more = reach_both (reach_past r n) ns more
