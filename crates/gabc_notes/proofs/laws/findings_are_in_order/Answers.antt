use Rattle.gabc_notes.proofs.order.FindingsAreInOrder.{all_in_order}
use Rattle.gabc_notes.proofs.laws.findings_are_in_order.Goals as goal

pub returns : goal.returns
returns c = all_in_order
