use Rattle.std.proofs.Common.{◌++◌, ◌∷◌, [], List, sym, ap, ◌∙◌, append_assoc, length}
use Rattle.gabc_neumes.specs.InForce.{InForce}
use Rattle.gabc_nodes.specs.declared.node.Node.{Node}
use Rattle.gabc_tree.specs.SyllableNodes.{around, inside_nodes, syllable_node}
use Rattle.gabc_tree.specs.machine.SyllableSlices.{placed_by}
use Rattle.gabc_tree.proofs.syllable_nodes.syllable_nodes.Goals as goal

pub returns-clause-nodes : goal.returns-clause-nodes
returns-clause-nodes c =
    let s = placed_by c.args.syllable in
    let front = c.args.out.now.items in
    let inside = inside_nodes c.begin_word.new.alterations s in
    c.hold.ensures front c.node_of.result inside
    (c.in_ok-add_inside.ensures.nodes ∙ (ap (λ (ns : List Node). ns ++ inside) c.in_ok-push.ensures.items ∙ append_assoc front (c.node_of.result ∷ []) inside))
    (sym (ap (λ (ns : List Node). length ns) c.as_slice-at.ensures.value))
    ∙ (ap (λ (n : Node). front ++ around n inside) c.node_of.ensures
    ∙ ap (λ (f : InForce). front ++ around (syllable_node s) (inside_nodes f s)) c.begin_word.ensures)
