use Rattle.std.proofs.Common.{arith}
use Rattle.gabc_score.proofs.resuming.ReachableStatesMeetInvariant.{at_state}
use Rattle.gabc_score.proofs.score_events.PendingSyllableHoldsUnit.{held_unit, laws_hold}
use Rattle.gabc_score.proofs.stage_laws.what_is_held_holds_a_unit.Goals as goal

pub returns : goal.returns
returns c = grind (arith, at_state, held_unit, laws_hold)
