use Rattle.std.proofs.Common.{◌≡◌, ◌+◌, ◌<◌, ◌^◌, [], length, IsUtf8}
use Rattle.std.specs.Str.{chars}
use Rattle.std.specs.Str.Iter.{chars_rest}
use Rattle.gabc_places.specs.Place.{place_past, placed_characters_from}
use Rattle.gabc_places.specs.StageLaw.{concat_of}
use Rattle.gabc_body.specs.Body.{body_of}
use Rattle.gabc_body.specs.NoteBeforeClef.{with_first_each}
use Rattle.gabc_score.specs.witness.BodyStage.{running_events_left}
use Rattle.gabc_score.specs.witness.ScoreStage.{left_of}
use Rattle.gabc_score.specs.machine.Collected.{WillSay, to_come}
use Rattle.gabc_score.specs.machine.ScoreMachine.{shown, IsScore}
use Rattle.gabc_score.proofs.build_body.build_body.Given as goal

abbrev pub invariant-loop-c : goal.invariant-loop-c
invariant-loop-c g l = record {
  utf8 : IsUtf8 (chars_rest l.chars);
  room : l.out ≡ record { items = []; limit = 16 };
  rests : IsScore l.machine;
  says : let xs = placed_characters_from l.fn.start.at (chars l.fn.body) in
      WillSay g.C.Give.given l.fn.taker l.taker l.said.findings l.said.fault (concat_of (left_of (shown l.machine) (to_come l.fn.ending (placed_characters_from l.place (chars (chars_rest l.chars))))))
      (body_of l.fn.limits l.fn.start.head l.fn.start.findings (place_past l.fn.start.at (chars l.fn.body)) l.fn.ending xs (with_first_each [] xs (running_events_left l.fn.stage xs)));
  line : l.place.line + length (chars_rest l.chars) < 2 ^ 64;
  column : l.place.column + length (chars_rest l.chars) < 2 ^ 64;
}

abbrev pub decreases-loop-c : goal.decreases-loop-c
decreases-loop-c g l = length (chars_rest l.chars)
