use Rattle.gabc_headers.proofs.prefixes.EventsMakeHeads.{events_make_heads}
use Rattle.gabc_headers.proofs.laws.events_make_the_headers.Goals as goal
use Rattle.gabc_places.proofs.decoding.PlainTextsAreReadAgain.{all_scalars}

pub returns : goal.returns
returns c limits t scalar = events_make_heads limits t (all_scalars t scalar)
