use Rattle.std.proofs.Common.{drop, length-drop, subst, arith}
use Rattle.std.specs.List.{All}
use Rattle.std.proofs.lemmas.Bool.{eqb-true}
use Rattle.std.proofs.lemmas.List.{take_all, take_rest}
use Rattle.gabc_score.specs.machine.RegularLen.{IsPlainByte}
use Rattle.gabc_score.proofs.regular_syllables.PlainBytes.{plain_both}
use Rattle.gabc_score.proofs.regular.are_plain.Goals as goal

pub returns-then-bytes-plain : goal.returns-then-bytes-plain
returns-then-bytes-plain c = λ _. subst (All IsPlainByte) (take_all c.args.plain c.args.bytes.now c.if-bytes-plain.true) c.requires

pub returns-else-bytes-plain : goal.returns-else-bytes-plain
returns-else-bytes-plain c = λ all.
    let rest = rw (take_rest) at c.plain_len.ensures.plain in
    let n = eqb-true _ _ all in
    let whole = take_all c.plain_len.result (drop c.args.plain c.args.bytes.now) (omega (arith, n, length-drop c.args.plain c.args.bytes.now)) in
    plain_both c.args.bytes.now c.args.plain c.requires (subst (All IsPlainByte) whole rest)
