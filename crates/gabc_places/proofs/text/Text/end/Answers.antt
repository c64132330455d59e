use Rattle.std.proofs.Common.{◌∷◌, ◌++◌, [], sym, ap, ◌∙◌, append-nil, append_assoc, arith}
use Rattle.std.specs.Str.{chars}
use Rattle.std.specs.Str.Iter.{chars_rest}
use Rattle.std.proofs.lemmas.Str.{chars_past_char, IsUtf8-past_char}
use Rattle.gabc_places.proofs.texts.CharactersOfStrings.{chars-none}
use Rattle.gabc_places.proofs.text.Text.end.Goals as goal

pub loop-c-init : goal.loop-c-init
loop-c-init c = grind (arith, chars_rest)

pub loop-c-preserved : goal.loop-c-preserved
loop-c-preserved c =
    let i = c.loop-c.invariant in
    let step = c.in-Some.ensures.steps.0 in
    let past = chars_past_char (chars_rest c.loop-c.c-iterator) (chars_rest c.next.new.self) c.in-Some.c i.utf8 step in
    record {
      place = c.after-place.ensures.follows c.loop-c.yielded i.place;
      whole = append_assoc c.loop-c.yielded (c.in-Some.c ∷ []) (chars (chars_rest c.next.new.self)) ∙ ap (λ t. c.loop-c.yielded ++ t) (sym past) ∙ i.whole;
      utf8 = IsUtf8-past_char (chars_rest c.loop-c.c-iterator) (chars_rest c.next.new.self) c.in-Some.c i.utf8 step;
    }

pub returns : goal.returns
returns c = grind (arith, append-nil, chars-none)
