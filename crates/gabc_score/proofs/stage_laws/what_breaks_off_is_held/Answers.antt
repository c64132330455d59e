use Rattle.gabc_score.proofs.score_events.OnlyPendingSyllableIsLeft.{given_is_held}
use Rattle.gabc_score.proofs.stage_laws.what_breaks_off_is_held.Goals as goal

pub returns : goal.returns
returns c s may = given_is_held s may
