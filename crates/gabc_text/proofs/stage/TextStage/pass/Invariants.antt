use Rattle.std.proofs.Common.{◌≡◌, ◌==◌, true, IsUtf8}
use Rattle.std.specs.Str.{chars, NonePass}
use Rattle.std.specs.Str.Iter.{chars_rest}
use Rattle.gabc_text.specs.machine.RawPart.{stage_past, is_in_raw}
use Rattle.gabc_text.proofs.stage.TextStage.pass.Given as goal

abbrev pub invariant-loop-c : goal.invariant-loop-c
invariant-loop-c l = record {
  can : (goal.iterator-loop-c).can_next l.c-iterator;
  ends : (goal.iterator-loop-c).is_finite l.c-iterator;
  utf8 : IsUtf8 (chars_rest l.c-iterator);
  raw : is_in_raw l.self ≡ true;
  no_ending : NonePass (λ c. c == 60) (chars (chars_rest l.c-iterator));
  passed : stage_past l.self (chars (chars_rest l.c-iterator)) ≡ stage_past l.initial.self (chars l.fn.text);
}
