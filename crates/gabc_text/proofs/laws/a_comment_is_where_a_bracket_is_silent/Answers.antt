use Rattle.gabc_text.proofs.NothingAfterTheEnd.{comment_silences}
use Rattle.gabc_text.proofs.laws.a_comment_is_where_a_bracket_is_silent.Goals as goal

pub returns : goal.returns
returns c = comment_silences
