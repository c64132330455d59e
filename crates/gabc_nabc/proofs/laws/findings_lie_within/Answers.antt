use Rattle.gabc_nabc.proofs.order.FindingsLieWithin.{all_within}
use Rattle.gabc_nabc.proofs.laws.findings_lie_within.Goals as goal

pub returns : goal.returns
returns c = all_within
