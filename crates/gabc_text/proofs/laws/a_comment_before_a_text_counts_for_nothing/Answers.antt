use Rattle.std.proofs.Common.{arith}
use Rattle.gabc_text.proofs.resuming.StagesKeep.{comment_on, comment_then_text, comment_last, moved_keeps}
use Rattle.gabc_text.proofs.laws.a_comment_before_a_text_counts_for_nothing.Goals as goal

pub returns : goal.returns
returns c = grind (arith, comment_on, moved_keeps, comment_then_text, comment_last)
