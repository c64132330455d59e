use Rattle.std.proofs.Common.{◌∙◌, ap, sym, arith, take}
use Rattle.std.proofs.lemmas.List.{length-take-le, take_more}
use Rattle.gabc_notes.specs.machine.Regular.{is_front}
use Rattle.gabc_notes.proofs.machine.RegularFronts.{front_more}
use Rattle.gabc_notes.proofs.regular.front_len.Goals as goal

pub loop-len-preserved : goal.loop-len-preserved
loop-len-preserved c =
    let i = c.loop-len.invariant in
    record {
      some = omega arith;
      within = omega arith;
      front =
          ap is_front (take_more c.args.bytes.now c.loop-len.len 0 (omega arith))
          ∙ front_more (take c.loop-len.len c.args.bytes.now) _ (let n = length-take-le c.loop-len.len c.args.bytes.now i.within in omega (arith, n, i.some)) i.front (sym c.goes_on_front.ensures ∙ c.if-goes_on_front.true);
    }
