use Rattle.std.proofs.Common.{◌==◌, ◌∷◌, arith}
use Rattle.std.specs.Str.{chars, NonePass}
use Rattle.std.specs.Str.Iter.{chars_rest}
use Rattle.std.proofs.lemmas.Str.{chars_past_char, IsUtf8-past_char}
use Rattle.gabc_places.proofs.texts.CharactersOfStrings.{chars-none}
use Rattle.gabc_text.proofs.machine.RawPartIsPassed.{pass_goes}
use Rattle.gabc_text.proofs.stage.TextStage.pass.Goals as goal

pub loop-c-init : goal.loop-c-init
loop-c-init c = grind (arith, chars_rest)

pub loop-c-preserved : goal.loop-c-preserved
loop-c-preserved c =
    let i = c.loop-c.invariant in
    let step = c.in-Some.ensures.steps.0 in
    let past = chars_past_char (chars_rest c.loop-c.c-iterator) (chars_rest c.next.new.self) c.in-Some.c i.utf8 step in
    let none : NonePass (λ x. x == 60) (c.in-Some.c ∷ chars (chars_rest c.next.new.self)) = rw past at i.no_ending in
    record {
      can = tt;
      ends = tt;
      utf8 = IsUtf8-past_char (chars_rest c.loop-c.c-iterator) (chars_rest c.next.new.self) c.in-Some.c i.utf8 step;
      raw = i.raw;
      no_ending = none.1;
      passed = pass_goes c.loop-c.self _ c.pass.new.self c.in-Some.c (chars (chars_rest c.next.new.self)) i.raw none c.pass.ensures (rw past at i.passed);
    }

pub returns : goal.returns
returns c = grind (arith, chars_rest, chars-none)
