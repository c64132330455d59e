use Rattle.gabc_headers.proofs.stages.PendingHeadersAreWithinLimit.{held_within}
use Rattle.gabc_headers.proofs.stage_laws.a_held_text_is_within_its_limit.Goals as goal

pub returns : goal.returns
returns c limits t some held = held_within c.earliest_is_least.ensures.found c.earliest_is_least.ensures.least limits t some held
