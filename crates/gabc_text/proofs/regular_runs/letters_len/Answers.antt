use Rattle.std.proofs.Common.{arith}
use Rattle.gabc_text.proofs.RegularBytes.{first_stays, word_step}
use Rattle.gabc_text.proofs.regular_runs.letters_len.Goals as goal

pub loop-end-preserved : goal.loop-end-preserved
loop-end-preserved c = grind (arith, word_step, first_stays)
