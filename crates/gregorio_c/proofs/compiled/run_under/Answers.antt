use Rattle.std.proofs.Common.{arith}
use Rattle.gregorio_c.proofs.TextsAreKept.{keeps_written}
use Rattle.gregorio_c.proofs.compiled.run_under.Goals as goal

pub returns-clause-written : goal.returns-clause-written
returns-clause-written c = grind (arith, keeps_written)
