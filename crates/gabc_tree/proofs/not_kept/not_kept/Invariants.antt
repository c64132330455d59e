use Rattle.std.proofs.Common.{◌≡◌, ◌+◌, ◌<◌, ◌^◌, length, IsUtf8}
use Rattle.std.specs.Str.{chars}
use Rattle.std.specs.Str.Iter.{chars_rest}
use Rattle.gabc_tree.specs.NotKept.{nodes_from, not_kept}
use Rattle.gabc_tree.specs.machine.NotKept.{joined_after}
use Rattle.gabc_tree.proofs.not_kept.not_kept.Given as goal

abbrev pub invariant-loop-c : goal.invariant-loop-c
invariant-loop-c l = record {
  all : joined_after l.joining (nodes_from l.reading (chars (chars_rest l.chars))) ≡ not_kept l.heads (chars l.kept) l.findings (chars l.input);
  short : l.reading.byte + length (chars_rest l.chars) < 2 ^ 32;
  utf8 : IsUtf8 (chars_rest l.chars);
}

abbrev pub decreases-loop-c : goal.decreases-loop-c
decreases-loop-c l = length (chars_rest l.chars)
