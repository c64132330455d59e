use Rattle.gabc_score.proofs.score_events.NothingAfterAStop.{nothing_after}
use Rattle.gabc_score.proofs.stage_laws.nothing_follows_a_stop.Goals as goal

pub returns : goal.returns
returns c s fault later = nothing_after s fault later
