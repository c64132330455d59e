use Rattle.std.proofs.Common.{◌≡◌, ◌++◌, drop, map, take}
use Rattle.gregorio_c.specs.Tree.{record_of}
use Rattle.gregorio_c.proofs.tree.put_nodes.Given as goal

abbrev pub invariant-loop-at : goal.invariant-loop-at
invariant-loop-at l = l.to ≡ map record_of (take l.at l.nodes) ++ drop l.at l.initial.to
