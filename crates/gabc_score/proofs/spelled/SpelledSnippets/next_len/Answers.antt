use Rattle.std.proofs.Common.{arith}
use Rattle.gabc_score.proofs.regular_syllables.SlicesAreRead.{alone, one_of_some, some_left}
use Rattle.gabc_score.proofs.spelled.SpelledSnippets.next_len.Goals as goal

pub overflow_sub-result : goal.overflow_sub-result
overflow_sub-result c = let some = some_left c.args.self c.requires.0 c.requires.1.0 c.requires.1.1 in omega (arith, some)

pub returns-then-self-eq0 : goal.returns-then-self-eq0
returns-then-self-eq0 c = λ nexts final a. alone c.args.self c.if-self-eq0.true nexts final a

pub returns-else-self-eq0 : goal.returns-else-self-eq0
returns-else-self-eq0 c = grind (arith, one_of_some)
