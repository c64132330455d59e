use Rattle.std.proofs.Common.{◌++◌}
use Rattle.gabc_tree.specs.TextNodes.{text_nodes}
use Rattle.gabc_tree.proofs.TextNodesByTokens.{Walked}
use Rattle.gabc_tree.proofs.text_nodes.text_nodes.Given as goal

abbrev pub invariant-loop-token : goal.invariant-loop-token
invariant-loop-token l = record {
  can : (goal.iterator-loop-token).can_next l.tokens;
  ends : (goal.iterator-loop-token).is_finite l.tokens;
  walked : Walked l.kept (l.initial.out.items ++ text_nodes l.kept) l.out.items l.last l.before l.tokens;
}
