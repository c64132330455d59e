use Rattle.gabc_patterns.proofs.RowsAfterACharacter.{none_ends}
use Rattle.gabc_patterns.proofs.WholeFront.{front_is_trim}
use Rattle.gabc_patterns.proofs.laws.whole_front_is_trimmed_to.Goals as goal

pub returns : goal.returns
returns g c = λ rows h. front_is_trim rows (none_ends rows h)
