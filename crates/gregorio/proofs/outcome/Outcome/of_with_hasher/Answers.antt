use Rattle.std.proofs.Common.{arith}
use Rattle.gregorio.proofs.RunsByOutcome.{outcome_by_parts}
use Rattle.gregorio.proofs.outcome.Outcome.of_with_hasher.Goals as goal

pub returns : goal.returns
returns c = grind (arith, outcome_by_parts)
