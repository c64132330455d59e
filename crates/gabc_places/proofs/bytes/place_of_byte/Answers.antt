use Rattle.std.proofs.Common.{◌+◌, ◌++◌, take, drop, refl, sym, ap, ◌∙◌, arith}
use Rattle.std.proofs.lemmas.List.{take-append-drop, drop_more}
use Rattle.gabc_places.proofs.bytes.place_of_byte.Goals as goal

pub returns-then-left-len : goal.returns-then-left-len
returns-then-left-len c = record {
  before = take c.loop-x.x-index c.args.chars.now;
  here = _;
  after = drop (c.loop-x.x-index + 1) c.args.chars.now;
  chars_are = sym (take-append-drop c.loop-x.x-index c.args.chars.now) ∙ ap (λ v. take c.loop-x.x-index c.args.chars.now ++ v) (drop_more c.args.chars.now c.loop-x.x-index _ c.loop-x-test.true);
  from = omega (arith, c.loop-x.invariant);
  to = omega (arith, c.loop-x.invariant, c.if-left-len.true, c.len_utf8-len.ensures.value);
  place_is = refl;
}
