use Rattle.gabc_body.proofs.order.FindingsAreNoFaults.{none_is_a_fault}
use Rattle.gabc_body.proofs.laws.findings_are_no_faults.Goals as goal

pub returns : goal.returns
returns c = none_is_a_fault c.findings_lie_within.ensures.low c.findings_lie_within.ensures.all
