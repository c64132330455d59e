use Rattle.gabc_notes.proofs.grammar.EmittedByRelations.{emitted_by_relations, relations_emit}
use Rattle.gabc_notes.proofs.laws.what_is_emitted_is_computed.Goals as goal

pub returns : goal.returns
returns c = λ split macros xs lists. (relations_emit split macros xs lists, emitted_by_relations split macros xs lists)
