use Rattle.std.proofs.Common.{◌≡◌}
use Rattle.gabc_tree.specs.machine.TextNodes.{has_piece}
use Rattle.gabc_tree.proofs.text_nodes.has_piece.Given as goal

-- none of those before is one
abbrev pub invariant-loop-token : goal.invariant-loop-token
invariant-loop-token l = record {
  can : (goal.iterator-loop-token).can_next l.token-iterator;
  ends : (goal.iterator-loop-token).is_finite l.token-iterator;
  ahead : has_piece l.fn.ahead ≡ has_piece l.token-iterator;
}
