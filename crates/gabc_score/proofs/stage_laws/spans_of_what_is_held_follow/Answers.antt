use Rattle.std.proofs.Common.{arith}
use Rattle.gabc_score.proofs.resuming.ReachableStatesMeetInvariant.{at_state}
use Rattle.gabc_score.proofs.score_events.PendingSyllableHoldsUnit.{held_follows, laws_hold}
use Rattle.gabc_score.proofs.stage_laws.spans_of_what_is_held_follow.Goals as goal

pub returns : goal.returns
returns c = grind (arith, at_state, held_follows, laws_hold)
