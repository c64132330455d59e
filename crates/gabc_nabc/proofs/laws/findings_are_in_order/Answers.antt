use Rattle.gabc_nabc.proofs.order.FindingsAreInOrder.{in_order}
use Rattle.gabc_nabc.proofs.laws.findings_are_in_order.Goals as goal

pub returns : goal.returns
returns c = in_order
