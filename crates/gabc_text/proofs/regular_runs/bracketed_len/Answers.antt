use Rattle.std.proofs.Common.{arith}
use Rattle.gabc_text.proofs.RegularRawParts.{bracketed_is}
use Rattle.gabc_text.proofs.regular_runs.bracketed_len.Goals as goal

pub returns-then-starts_with-clause-bracketed : goal.returns-then-starts_with-clause-bracketed
returns-then-starts_with-clause-bracketed c = grind (arith, bracketed_is)
