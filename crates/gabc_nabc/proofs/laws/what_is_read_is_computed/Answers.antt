use Rattle.gabc_nabc.proofs.grammar.ReadByRelations.{read_by_relations, relations_are_computed}
use Rattle.gabc_nabc.proofs.laws.what_is_read_is_computed.Goals as goal

pub returns : goal.returns
returns c = λ at t read. (relations_are_computed at t read, read_by_relations at t read)
