use Rattle.gabc_headers.proofs.order.FindingsLieBeforeBody.{heads_within}
use Rattle.gabc_headers.proofs.laws.findings_lie_before_the_body.Goals as goal

pub returns : goal.returns
returns c = heads_within
