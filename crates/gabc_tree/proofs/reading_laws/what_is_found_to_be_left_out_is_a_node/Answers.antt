use Rattle.gabc_tree.proofs.fates.OfScore.{left_so}
use Rattle.gabc_tree.proofs.reading_laws.what_is_found_to_be_left_out_is_a_node.Goals as goal

pub returns : goal.returns
returns c = left_so
