use Rattle.std.proofs.Common.{◌≡◌, ◌+◌, ◌<◌, ◌^◌, [], List, length, IsUtf8}
use Rattle.std.specs.Str.{chars}
use Rattle.std.specs.Str.Iter.{chars_rest}
use Rattle.gabc_places.specs.declared.place.Char.{Char}
use Rattle.gabc_places.specs.Place.{placed_characters_from}
use Rattle.gabc_notes.specs.machine.BuiltSnippet.{built_snippet_of}
use Rattle.gabc_notes.proofs.machine.LoopOverBody.{Reaches}
use Rattle.gabc_notes.proofs.whole.snippet_whole.Given as goal

abbrev pub invariant-loop-c : goal.invariant-loop-c
invariant-loop-c l = record {
  can : (goal.iterator-loop-c).can_next l.c-iterator;
  ends : (goal.iterator-loop-c).is_finite l.c-iterator;
  utf8 : IsUtf8 (chars_rest l.c-iterator);
  reaches : (back : List Char) × Reaches l.fn.split l.fn.macros (placed_characters_from l.fn.at (chars l.fn.body)) back (placed_characters_from l.place (chars (chars_rest l.c-iterator))) l.stage (built_snippet_of l.builder) l.index;
  line : l.place.line + length (chars_rest l.c-iterator) < 2 ^ 64;
  column : l.place.column + length (chars_rest l.c-iterator) < 2 ^ 64;
  index : l.index + length (chars_rest l.c-iterator) ≡ length l.fn.body;
  empty : l.room ≡ record { items = []; limit = 3 };
}
