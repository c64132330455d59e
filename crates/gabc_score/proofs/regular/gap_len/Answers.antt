use Rattle.std.proofs.Common.{length-drop, arith}
use Rattle.std.proofs.lemmas.List.{take_rest}
use Rattle.gabc_score.proofs.regular_syllables.GapsAreRead.{more_joined}
use Rattle.gabc_score.proofs.regular.gap_len.Goals as goal

pub loop-end-preserved : goal.loop-end-preserved
loop-end-preserved c =
    let within = rw (take_rest) at c.gap_part_len-more.ensures.within in
    record {
      within = omega (arith, within, length-drop c.loop-end.end c.args.bytes.now, c.loop-end.invariant.within);
      gap = more_joined c.args.bytes.now c.loop-end.end c.gap_part_len-more.result c.loop-end.invariant.gap (rw (take_rest) at c.gap_part_len-more.ensures.gap);
    }
