use Rattle.std.proofs.Common.{◌≡◌, ◌+◌, ◌^◌, ◌<◌, [], length, IsUtf8}
use Rattle.std.specs.Str.{chars}
use Rattle.std.specs.Str.Iter.{chars_rest}
use Rattle.gabc_nabc.specs.machine.BuiltNabc.{built_nabc_of}
use Rattle.gabc_nabc.proofs.machine.LoopOverBody.{Reaches}
use Rattle.gabc_nabc.proofs.whole.nabc_whole.Given as goal

abbrev pub invariant-loop-c : goal.invariant-loop-c
invariant-loop-c l = record {
  can : (goal.iterator-loop-c).can_next l.c-iterator;
  ends : (goal.iterator-loop-c).is_finite l.c-iterator;
  utf8 : IsUtf8 (chars_rest l.c-iterator);
  going : Reaches l.fn.at (chars l.fn.body) l.yielded (chars (chars_rest l.c-iterator)) l.place l.stage (built_nabc_of l.builder) l.index;
  line : l.place.line + length (chars_rest l.c-iterator) < 2 ^ 64;
  column : l.place.column + length (chars_rest l.c-iterator) < 2 ^ 64;
  empty : l.room ≡ record { items = []; limit = 3 };
}
