use Rattle.gabc_tree.proofs.NestedNabc.{nabc_is_nested}
use Rattle.gabc_tree.proofs.nested_laws.nodes_of_nabc_are_nested.Goals as goal

pub returns : goal.returns
returns c = nabc_is_nested
