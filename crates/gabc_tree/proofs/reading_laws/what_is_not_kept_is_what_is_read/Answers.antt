use Rattle.gabc_tree.proofs.fates.OfScore.{read_so}
use Rattle.gabc_tree.proofs.reading_laws.what_is_not_kept_is_what_is_read.Goals as goal

pub returns : goal.returns
returns c = read_so
