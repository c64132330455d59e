use Rattle.std.proofs.Common.{◌≡◌, map, take, drop}
use Rattle.gabc_tree.specs.Placed.{moved}
use Rattle.gabc_tree.proofs.body_nodes.move_each.Given as goal

abbrev pub invariant-loop-node : goal.invariant-loop-node
invariant-loop-node l = record {
  done : take l.node-index l.nodes ≡ map (moved l.base) (take l.node-index l.initial.nodes);
  rest : drop l.node-index l.nodes ≡ drop l.node-index l.initial.nodes;
}
