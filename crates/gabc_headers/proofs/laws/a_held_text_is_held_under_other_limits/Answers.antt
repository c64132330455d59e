use Rattle.gabc_headers.proofs.stops.SufficientLimitsGiveSameHeaders.{held_alike}
use Rattle.gabc_headers.proofs.laws.a_held_text_is_held_under_other_limits.Goals as goal

pub returns : goal.returns
returns c limits other t held small large = held_alike limits other t held small large
