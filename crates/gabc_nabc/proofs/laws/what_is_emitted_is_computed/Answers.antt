use Rattle.gabc_nabc.proofs.grammar.EmittedByRelations.{emitted_by_relations, relations_emit}
use Rattle.gabc_nabc.proofs.laws.what_is_emitted_is_computed.Goals as goal

pub returns : goal.returns
returns c = λ xs lists. (relations_emit xs lists, emitted_by_relations xs lists)
