use Rattle.gabc_body.proofs.within_limits.LargerLimits.{score_still}
use Rattle.gabc_body.proofs.laws.larger_limits_change_no_score.Goals as goal

pub returns : goal.returns
returns c = score_still c.larger_limits_change_no_headers.ensures.same c.larger_limits_change_no_headers.ensures.inside
