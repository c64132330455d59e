use Rattle.std.proofs.Common.{◌≡◌, ◌+◌}
use Rattle.std.specs.Prelude.{drop}
use Rattle.std.specs.Str.{chars, IsCharBoundary}
use Rattle.gabc_tree.specs.NotKept.{nodes_from}
use Rattle.gabc_tree.proofs.not_kept.pass_kept.Given as goal

abbrev pub invariant-loop-byte : goal.invariant-loop-byte
invariant-loop-byte l = record {
  at : l.count ≡ l.byte-index;
  boundary : IsCharBoundary l.text l.count;
  nodes : nodes_from l.reading (chars (drop l.count l.text)) ≡ nodes_from l.initial.reading (chars l.text);
  bytes : l.reading.byte ≡ l.initial.reading.byte + l.count;
}
