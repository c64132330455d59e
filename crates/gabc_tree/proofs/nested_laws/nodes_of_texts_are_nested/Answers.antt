use Rattle.gabc_tree.proofs.NestedTexts.{text_nested}
use Rattle.gabc_tree.proofs.nested_laws.nodes_of_texts_are_nested.Goals as goal

pub returns : goal.returns
returns c = text_nested
