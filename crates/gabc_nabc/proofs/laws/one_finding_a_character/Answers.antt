use Rattle.gabc_nabc.proofs.order.FindingsAreInOrder.{one_at_most}
use Rattle.gabc_nabc.proofs.laws.one_finding_a_character.Goals as goal

pub returns : goal.returns
returns c = one_at_most
