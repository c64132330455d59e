use Rattle.gabc_headers.proofs.entries.PuttingEntriesGivesBook.{put-book}
use Rattle.gabc_headers.proofs.laws.last_value_at_first_place.Goals as goal

pub returns : goal.returns
returns c = λ es. put-book es
