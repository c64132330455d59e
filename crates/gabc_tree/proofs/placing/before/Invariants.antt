use Rattle.std.proofs.Common.{◌≡◌, ◌+◌, length}
use Rattle.std.specs.Prelude.{drop}
use Rattle.gabc_tree.specs.Placed.{before_byte, bytes_in}
use Rattle.gabc_tree.proofs.placing.before.Given as goal

abbrev pub invariant-loop-node : goal.invariant-loop-node
invariant-loop-node l = record {
  at : l.count ≡ l.node-index;
  count : l.count + length (before_byte (l.n + l.bytes) (drop l.node-index l.out)) ≡ length (before_byte l.n l.out);
  bytes : l.bytes + bytes_in (before_byte (l.n + l.bytes) (drop l.node-index l.out)) ≡ bytes_in (before_byte l.n l.out);
  rest : l.bytes + bytes_in (drop l.node-index l.out) ≡ bytes_in l.out;
}
