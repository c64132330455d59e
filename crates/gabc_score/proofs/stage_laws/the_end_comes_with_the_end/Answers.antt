use Rattle.gabc_score.proofs.score_events.NoStopWhereInputsCease.{no_end}
use Rattle.gabc_score.proofs.stage_laws.the_end_comes_with_the_end.Goals as goal

pub returns : goal.returns
returns c s xs none = no_end s xs none
