use Rattle.std.proofs.Common.{◌∙◌, sym, arith}
use Rattle.gabc_score.proofs.regular_syllables.GapsAreRead.{more_opened, ended}
use Rattle.gabc_score.proofs.regular.comment_len.Goals as goal

pub loop-end-preserved : goal.loop-end-preserved
loop-end-preserved c = grind (arith, more_opened)

pub returns-in-Some-eq10-clause-gap : goal.returns-in-Some-eq10-clause-gap
returns-in-Some-eq10-clause-gap c =
    let found = c.in-Some-eq10.ensures.lookup in
    ended c.args.bytes.now c.loop-end.end found.3.0 (sym (found.3.1 0) ∙ c.in-Some-eq10.field-0-test) c.loop-end.invariant.opened
