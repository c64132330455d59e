use Rattle.gabc_nabc.proofs.grammar.KeptByRelations.{chars_computed}
use Rattle.gabc_nabc.proofs.laws.kept_characters_are_computed.Goals as goal

pub returns : goal.returns
returns c = chars_computed
