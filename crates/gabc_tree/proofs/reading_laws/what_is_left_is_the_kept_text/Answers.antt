use Rattle.gabc_tree.proofs.fates.Left.{kept_text}
use Rattle.gabc_tree.proofs.reading_laws.what_is_left_is_the_kept_text.Goals as goal

pub returns : goal.returns
returns c = kept_text
