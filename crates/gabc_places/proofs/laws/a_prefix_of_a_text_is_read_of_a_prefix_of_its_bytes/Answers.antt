use Rattle.gabc_places.proofs.decoding.PrefixesAreRead.{prefix_of_bytes}
use Rattle.gabc_places.proofs.laws.a_prefix_of_a_text_is_read_of_a_prefix_of_its_bytes.Goals as goal

pub returns : goal.returns
returns c = prefix_of_bytes
