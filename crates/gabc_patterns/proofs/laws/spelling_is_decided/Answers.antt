use Rattle.gabc_patterns.proofs.Spelled.{spells_decides}
use Rattle.gabc_patterns.proofs.laws.spelling_is_decided.Goals as goal

pub returns : goal.returns
returns c = spells_decides
