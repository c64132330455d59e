use Rattle.std.proofs.Common.{List, map, length, ap, ◌∙◌}
use Rattle.std.proofs.lemmas.List.{length-map, with_items_is}
use Rattle.gabc_nodes.specs.declared.node.Node.{Node}
use Rattle.gabc_tree.specs.Placed.{moved}
use Rattle.gabc_tree.proofs.body_nodes.move_all.Goals as goal

pub returns : goal.returns
returns c =
    let slice = c.as_mut_slice in
    let long = ap (λ (ns : List Node). length ns) c.move_each.ensures ∙ length-map slice.result.now (moved c.args.base) ∙ slice.ensures.len in
    with_items_is c.args.nodes.now c.move_each.new.nodes long ∙ c.move_each.ensures ∙ ap (map (moved c.args.base)) slice.ensures.value
