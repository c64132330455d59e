use Rattle.gabc_headers.proofs.order.FindingsAreInOrder.{heads_order}
use Rattle.gabc_headers.proofs.laws.findings_in_order.Goals as goal

pub returns : goal.returns
returns c = heads_order
