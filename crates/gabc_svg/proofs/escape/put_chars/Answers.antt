use Rattle.std.proofs.Common.{append-nil, arith}
use Rattle.std.specs.List.{flat_map}
use Rattle.std.specs.Str.Iter.{chars_rest}
use Rattle.std.proofs.lemmas.Str.{chars_past_char, IsUtf8-past_char}
use Rattle.gabc_places.proofs.texts.CharactersOfStrings.{chars-none}
use Rattle.gabc_svg.specs.Escape.{escaped}
use Rattle.gabc_svg.proofs.escape.put_chars.Goals as goal

pub loop-c-init : goal.loop-c-init
unfolding escaped
loop-c-init g c = grind (arith, chars_rest)

pub loop-c-preserved : goal.loop-c-preserved
loop-c-preserved g c =
    let i = c.loop-c.invariant in
    let step = c.in-Some.ensures.steps.0 in
    let past = chars_past_char (chars_rest c.loop-c.c-iterator) (chars_rest c.next.new.self) c.in-Some.c i.utf8 step in
    record {
      all = rw (← i.all) (grind (arith, past, flat_map, c.put_escaped_char.ensures));
      utf8 = IsUtf8-past_char (chars_rest c.loop-c.c-iterator) (chars_rest c.next.new.self) c.in-Some.c i.utf8 step;
    }

pub returns : goal.returns
unfolding escaped
returns g c = grind (arith, append-nil, chars-none)
