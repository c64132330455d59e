use Rattle.std.proofs.Common.{arith}
use Rattle.gabc_text.proofs.RegularBytes.{word_step, blank_step}
use Rattle.gabc_text.proofs.regular_runs.more_of_run.Goals as goal

pub returns-then-word-gt0-clause-goes_on : goal.returns-then-word-gt0-clause-goes_on
returns-then-word-gt0-clause-goes_on c = λ more s. word_step c.args.bytes.now c.args.end _ (c.word_len-word.ensures.word more) s

pub returns-then-after-gt0-clause-goes_on : goal.returns-then-after-gt0-clause-goes_on
returns-then-after-gt0-clause-goes_on c = grind (arith, blank_step)
