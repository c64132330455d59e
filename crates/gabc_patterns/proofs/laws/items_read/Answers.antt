use Rattle.gabc_patterns.proofs.RowsAfterACharacter.{none_ends}
use Rattle.gabc_patterns.proofs.ItemsFunctionReads.{items_are}
use Rattle.gabc_patterns.proofs.laws.items_read.Goals as goal

pub returns : goal.returns
returns g c = λ rows h. items_are rows (none_ends rows h)
