use Rattle.std.proofs.Common.{arith}
use Rattle.gabc_text.proofs.tokens.PrefixBeforeTag.{prefix_none, prefix_some}
use Rattle.gabc_text.proofs.whole.before_tag.Goals as goal

pub returns-in-Some-clause-prefix : goal.returns-in-Some-clause-prefix
returns-in-Some-clause-prefix c = grind (arith, prefix_some)

pub returns-in-None-clause-prefix : goal.returns-in-None-clause-prefix
returns-in-None-clause-prefix c = grind (arith, prefix_none)
