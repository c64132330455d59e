use Rattle.std.proofs.Common.{◌≡◌, IsUtf8}
use Rattle.std.specs.List.{flat_map}
use Rattle.std.specs.Str.{chars}
use Rattle.std.specs.Str.Iter.{chars_rest}
use Rattle.gabc_svg.specs.Escape.{escaped, escaped_char}
use Rattle.gabc_svg.proofs.escape.put_chars.Given as goal

-- with what is left, it will have taken all of it
abbrev pub invariant-loop-c : goal.invariant-loop-c
invariant-loop-c g l = record {
  all : g.S.Put.taken l.out (flat_map escaped_char (chars (chars_rest l.c-iterator))) ≡ g.S.Put.taken l.initial.out (escaped l.text);
  utf8 : IsUtf8 (chars_rest l.c-iterator);
}
