use Rattle.gabc_text.proofs.by_kept.ViewIsKept.{view_is_kept}
use Rattle.gabc_text.proofs.laws.a_text_says_what_is_kept.Goals as goal

pub returns : goal.returns
returns c = view_is_kept
