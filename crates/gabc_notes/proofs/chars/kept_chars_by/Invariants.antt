use Rattle.std.proofs.Common.{◌≡◌, ◌+◌, ◌<◌, ◌≤◌, ◌^◌, ◌++◌, [], take, length, IsUtf8}
use Rattle.std.specs.Str.{chars}
use Rattle.std.specs.Str.Iter.{chars_rest}
use Rattle.gabc_places.specs.StageLaw.{concat_of}
use Rattle.gabc_places.specs.Place.{placed_characters_from}
use Rattle.gabc_notes.specs.SnippetRead.{kept_chars_of}
use Rattle.gabc_notes.proofs.chars.kept_chars_by.Given as goal

abbrev pub invariant-loop-c : goal.invariant-loop-c
invariant-loop-c g l = record {
  can : (goal.iterator-loop-c g).can_next l.c-iterator;
  ends : (goal.iterator-loop-c g).is_finite l.c-iterator;
  utf8 : IsUtf8 (chars_rest l.c-iterator);
  few : length l.found ≤ l.count;
  law : take l.count (kept_chars_of (concat_of (g.S.Stage.rest l.initial.stage (placed_characters_from l.fn.at (chars l.fn.body)))))
      ≡ take l.count (l.found ++ kept_chars_of (concat_of (g.S.Stage.rest l.stage (placed_characters_from l.place (chars (chars_rest l.c-iterator))))));
  line : l.place.line + length (chars_rest l.c-iterator) < 2 ^ 64;
  column : l.place.column + length (chars_rest l.c-iterator) < 2 ^ 64;
  most : g.S.Stage.most_of l.stage ≡ g.S.Stage.most_of l.initial.stage;
  room : l.room ≡ record { items = []; limit = g.S.Stage.most_of l.initial.stage };
}
