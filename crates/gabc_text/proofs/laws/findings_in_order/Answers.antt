use Rattle.gabc_text.proofs.order.FindingsAreInOrder.{findings_ordered}
use Rattle.gabc_text.proofs.laws.findings_in_order.Goals as goal

pub returns : goal.returns
returns c at t = findings_ordered at t
