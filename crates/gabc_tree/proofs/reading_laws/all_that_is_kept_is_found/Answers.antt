use Rattle.gabc_tree.proofs.fates.OfScore.{found_so}
use Rattle.gabc_tree.proofs.reading_laws.all_that_is_kept_is_found.Goals as goal

pub returns : goal.returns
returns c = found_so
