use Rattle.std.proofs.Common.{arith}
use Rattle.gabc_text.proofs.RegularParts.{enclosed_is}
use Rattle.gabc_text.proofs.regular_runs.enclosed_len.Goals as goal

pub returns-then-starts_with-clause-enclosed : goal.returns-then-starts_with-clause-enclosed
returns-then-starts_with-clause-enclosed c = grind (arith, enclosed_is)
