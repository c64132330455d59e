use Rattle.std.proofs.Common.{◌≡◌, ◌+◌, ◌≤◌, ◌++◌, [], length, IsUtf8}
use Rattle.std.specs.Str.{chars}
use Rattle.std.specs.Str.Iter.{chars_rest}
use Rattle.gabc_places.specs.StageLaw.{concat_of}
use Rattle.gabc_places.specs.Place.{placed_characters_from}
use Rattle.gabc_places.proofs.TakenInTurn.{TakenTo}
use Rattle.gabc_places.proofs.collect.outputs_of.Given as goal

abbrev pub invariant-loop-c : goal.invariant-loop-c
invariant-loop-c g l = record {
  utf8 : IsUtf8 (chars_rest l.c-iterator);
  most : l.room.limit ≡ g.S.Stage.most_of l.stage;
  empty : l.room.items ≡ [];
  all : l.all ++ concat_of (g.S.Stage.rest l.stage (placed_characters_from l.place (chars (chars_rest l.c-iterator))))
      ≡ concat_of (g.S.Stage.rest l.initial.stage (placed_characters_from l.fn.at (chars l.text)));
  taken : TakenTo (g.S.Stage.rest l.initial.stage) (g.S.Stage.rest l.stage) (placed_characters_from l.fn.at (chars l.text)) (placed_characters_from l.place (chars (chars_rest l.c-iterator)));
  line : l.place.line + length (chars_rest l.c-iterator) ≤ l.fn.at.line + length l.text;
  column : l.place.column + length (chars_rest l.c-iterator) ≤ l.fn.at.column + length l.text;
}
