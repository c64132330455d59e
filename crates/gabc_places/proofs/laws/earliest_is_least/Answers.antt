use Rattle.gabc_places.proofs.EarliestIsLeast.{least-found}
use Rattle.gabc_places.proofs.laws.earliest_is_least.Goals as goal

pub returns-clause-found : goal.returns-clause-found
returns-clause-found c = λ stops s e. (least-found stops s e).found

pub returns-clause-least : goal.returns-clause-least
returns-clause-least c = λ stops s e. (least-found stops s e).least
