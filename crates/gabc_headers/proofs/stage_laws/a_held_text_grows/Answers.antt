use Rattle.gabc_headers.proofs.stages.FindingsOfPendingHeadersGrow.{held_at_first, found_more_held}
use Rattle.gabc_headers.proofs.stage_laws.a_held_text_grows.Goals as goal

pub returns-clause-begins : goal.returns-clause-begins
returns-clause-begins c limits = held_at_first limits

pub returns-clause-found : goal.returns-clause-found
returns-clause-found c limits t x scalars scalar held longer = found_more_held limits t x scalars scalar held longer
