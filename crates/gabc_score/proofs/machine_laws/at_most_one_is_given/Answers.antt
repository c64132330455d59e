use Rattle.std.proofs.Common.{arith}
use Rattle.gabc_score.proofs.score_events.NoStopWhereInputsCease.{few_are_held}
use Rattle.gabc_score.proofs.machine_laws.at_most_one_is_given.Goals as goal

pub returns-in-Body : goal.returns-in-Body
returns-in-Body c = grind (arith, few_are_held)
