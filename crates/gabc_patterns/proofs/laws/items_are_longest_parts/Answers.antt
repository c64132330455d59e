use Rattle.gabc_patterns.proofs.RowsAfterACharacter.{none_ends}
use Rattle.gabc_patterns.proofs.ItemsBy.{items_by_are_items}
use Rattle.gabc_patterns.proofs.laws.items_are_longest_parts.Goals as goal

pub returns : goal.returns
returns g c = λ rows h. items_by_are_items rows (none_ends rows h)
