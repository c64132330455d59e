use Rattle.gabc_tree.proofs.NestedHeaders.{headers_nested}
use Rattle.gabc_tree.proofs.nested_laws.nodes_of_headers_are_nested.Goals as goal

pub returns : goal.returns
returns c = headers_nested
