use Rattle.gabc_headers.proofs.stages.PendingHeadersRoundTrip.{held_again, found_held}
use Rattle.gabc_headers.proofs.stage_laws.a_held_text_is_held_again.Goals as goal
use Rattle.gabc_places.proofs.decoding.PlainTextsAreReadAgain.{all_scalars}

pub returns-clause-state : goal.returns-clause-state
returns-clause-state c limits hasher xs scalar held = (held_again limits hasher xs (all_scalars _ scalar) held).stage

pub returns-clause-found : goal.returns-clause-found
returns-clause-found c limits xs scalar held = found_held limits xs (all_scalars _ scalar) held
