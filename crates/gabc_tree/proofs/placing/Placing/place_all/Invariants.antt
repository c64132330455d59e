use Rattle.std.proofs.Common.{◌≡◌, ◌++◌}
use Rattle.std.specs.Prelude.{drop}
use Rattle.gabc_tree.specs.Placed.{placed_from, reach_after}
use Rattle.gabc_tree.proofs.placing.Placing.place_all.Given as goal

abbrev pub invariant-loop-node : goal.invariant-loop-node
invariant-loop-node l = record {
  nodes : l.self.nodes ++ placed_from l.self.reach (drop l.node-index l.nodes) ≡ l.initial.self.nodes ++ placed_from l.initial.self.reach l.nodes;
  reach : reach_after l.self.reach (drop l.node-index l.nodes) ≡ reach_after l.initial.self.reach l.nodes;
}
