use Rattle.std.proofs.Common.{◌≡◌, ℕ, ◌+◌, ◌<◌, ◌^◌, List, ◌++◌, length, IsUtf8}
use Rattle.std.specs.Str.{chars}
use Rattle.std.specs.Str.Iter.{chars_rest}
use Rattle.gabc_places.specs.Place.{place_after}
use Rattle.gregorio.specs.machine.HeldHeaders.{IsPushed}
use Rattle.gregorio.proofs.held_headers.push_text.Given as goal

abbrev pub invariant-loop-c : goal.invariant-loop-c
invariant-loop-c l = record {
  can : goal.iterator-loop-c.can_next l.c-iterator;
  ends : goal.iterator-loop-c.is_finite l.c-iterator;
  utf8 : IsUtf8 (chars_rest l.c-iterator);
  room : l.events.limit ≡ l.initial.events.limit;
  front : List ℕ;
  all : front ++ chars (chars_rest l.c-iterator) ≡ chars l.fn.text;
  place : l.given.place ≡ place_after front;
  pushed : IsPushed l.initial.heads.limits l.initial.heads.hasher front l.heads l.given.has_error;
  line : l.given.place.line + length (chars_rest l.c-iterator) < 2 ^ 64;
  column : l.given.place.column + length (chars_rest l.c-iterator) < 2 ^ 64;
}
