use Rattle.gabc_notes.proofs.grammar.KeptByRelations.{chars_computed}
use Rattle.gabc_notes.proofs.laws.kept_characters_are_computed.Goals as goal

pub returns : goal.returns
returns c = chars_computed
