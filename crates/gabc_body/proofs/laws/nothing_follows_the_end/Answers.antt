use Rattle.gabc_body.proofs.score_events.NothingAfterTheEnd.{nothing_follows}
use Rattle.gabc_body.proofs.laws.nothing_follows_the_end.Goals as goal

pub returns : goal.returns
returns c = nothing_follows
