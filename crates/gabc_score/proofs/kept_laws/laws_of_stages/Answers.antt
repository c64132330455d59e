use Rattle.std.proofs.Common.{arith}
use Rattle.gabc_score.proofs.kept_laws.laws_of_stages.Goals as goal

pub returns : goal.returns
returns c = grind arith
