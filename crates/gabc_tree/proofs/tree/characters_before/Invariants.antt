use Rattle.std.proofs.Common.{◌≡◌, ◌+◌, ◌≤◌, length, IsUtf8}
use Rattle.std.specs.Str.{chars}
use Rattle.std.specs.Str.Iter.{chars_rest}
use Rattle.gabc_tree.specs.Tree.{characters_before}
use Rattle.gabc_tree.proofs.tree.characters_before.Given as goal

abbrev pub invariant-loop-c : goal.invariant-loop-c
invariant-loop-c l = record {
  count : l.count + characters_before l.left (chars (chars_rest l.c-iterator)) ≡ characters_before l.end (chars l.text);
  few : l.count + length (chars_rest l.c-iterator) ≤ length l.text;
  utf8 : IsUtf8 (chars_rest l.c-iterator);
}
