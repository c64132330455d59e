use Rattle.std.proofs.Common.{◌≡◌, ◌++◌, IsUtf8}
use Rattle.std.specs.Str.{chars}
use Rattle.std.specs.Str.Iter.{chars_rest}
use Rattle.gabc_places.specs.Place.{place_after}
use Rattle.gabc_places.proofs.text.Text.end.Given as goal

abbrev pub invariant-loop-c : goal.invariant-loop-c
invariant-loop-c l = record {
  place : l.place ≡ place_after l.yielded;
  whole : l.yielded ++ chars (chars_rest l.c-iterator) ≡ l.self;
  utf8 : IsUtf8 (chars_rest l.c-iterator);
}
