use Rattle.gabc_tree.proofs.NestedNotes.{notes_are_nested}
use Rattle.gabc_tree.proofs.nested_laws.nodes_of_notes_are_nested.Goals as goal

pub returns : goal.returns
returns c = notes_are_nested
