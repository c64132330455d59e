use Rattle.std.proofs.Common.{arith}
use Rattle.std.proofs.lemmas.List.{length-take-le, take-take}
use Rattle.gabc_score.proofs.run.plain_after.Goals as goal

pub returns : goal.returns
returns c = grind (arith, length-take-le, take-take)
