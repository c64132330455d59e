use Rattle.std.proofs.Common.{arith}
use Rattle.gabc_text.proofs.printing.TokensOfKeptText.{kept_again, facts_again}
use Rattle.gabc_text.proofs.printing.LineFeedBeginsWord.{begins_word}
use Rattle.gabc_text.proofs.laws.a_kept_text_is_read_again.Goals as goal

pub returns : goal.returns
returns c = grind (arith, kept_again, facts_again, begins_word)
