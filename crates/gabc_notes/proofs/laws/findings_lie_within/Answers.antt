use Rattle.gabc_notes.proofs.order.FindingsLieWithin.{all_within}
use Rattle.gabc_notes.proofs.laws.findings_lie_within.Goals as goal

pub returns : goal.returns
returns c = all_within
