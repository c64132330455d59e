use Rattle.gabc_score.proofs.resuming.CommentInText.{front_in_text}
use Rattle.gabc_score.proofs.stage_laws.a_comment_in_front_can_be_read_in_a_text.Goals as goal

pub returns : goal.returns
returns c = front_in_text
