use Rattle.gabc_headers.proofs.groups.BookNeedsScoreLine.{score_after}
use Rattle.gabc_headers.proofs.laws.the_body_follows_the_mark.Goals as goal

pub returns : goal.returns
returns c = score_after
