use Rattle.gabc_tree.proofs.places.OfScore.{places_so}
use Rattle.gabc_tree.proofs.place_laws.what_is_found_stands_at_a_byte.Goals as goal

pub returns : goal.returns
returns c = places_so
