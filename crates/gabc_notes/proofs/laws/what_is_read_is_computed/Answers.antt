use Rattle.gabc_notes.proofs.grammar.ReadByRelations.{read_by_relations, relations_are_computed}
use Rattle.gabc_notes.proofs.laws.what_is_read_is_computed.Goals as goal

pub returns : goal.returns
returns c = λ at split macros t read. (relations_are_computed at split macros t read, read_by_relations at split macros t read)
