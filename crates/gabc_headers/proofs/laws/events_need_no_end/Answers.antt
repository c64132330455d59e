use Rattle.gabc_headers.proofs.prefixes.EventsNeedNoEnd.{broken_gives, stopped_gives}
use Rattle.gabc_headers.proofs.laws.events_need_no_end.Goals as goal
use Rattle.gabc_places.proofs.decoding.PlainTextsAreReadAgain.{all_scalars}

pub returns-clause-broken : goal.returns-clause-broken
returns-clause-broken c limits t scalar = broken_gives limits t (all_scalars t scalar)

pub returns-clause-stopped : goal.returns-clause-stopped
returns-clause-stopped c limits t fault ended scalar = stopped_gives limits t (all_scalars t scalar) ended fault
