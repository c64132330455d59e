use Rattle.std.proofs.Common.{[]}
use Rattle.gabc_places.proofs.texts.PlacesOfCharacters.{length-placed, placed-at}
use Rattle.gabc_places.proofs.laws.characters_come_after_the_text_before.Goals as goal

pub returns-clause-len : goal.returns-clause-len
returns-clause-len c = length-placed []

pub returns-clause-at : goal.returns-clause-at
returns-clause-at c = placed-at []
