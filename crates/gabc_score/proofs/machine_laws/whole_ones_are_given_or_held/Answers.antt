use Rattle.std.proofs.Common.{arith}
use Rattle.gabc_score.proofs.score_events.ReportIsWithinLimits.{held_made}
use Rattle.gabc_score.proofs.machine_laws.whole_ones_are_given_or_held.Goals as goal

pub returns : goal.returns
returns c = grind (arith, held_made)
