use Rattle.std.proofs.Common.{◌≤◌, length, arith}
use Rattle.std.proofs.lemmas.List.Elements.{All-head}
use Rattle.gabc_notes.specs.declared.item.Item.{Item}
use Rattle.gabc_tree.proofs.note_nodes.add_item.Goals as goal

pub node_at-requires-clause-end : goal.node_at-requires-clause-end
node_at-requires-clause-end c =
    let first = All-head (λ (i : Item). (i.span.from ≤ i.span.to) × (i.span.to ≤ length c.args.kept.now)) c.args.item c.args.later.now c.requires.within in
    omega (arith, first)
