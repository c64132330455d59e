use Rattle.gabc_text.proofs.printing.LineFeedBeginsWord.{begins_word_alone}
use Rattle.gabc_text.proofs.laws.a_line_feed_begins_a_word.Goals as goal

pub returns : goal.returns
returns c t = begins_word_alone t
