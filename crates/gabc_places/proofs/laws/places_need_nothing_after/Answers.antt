use Rattle.std.proofs.Common.{[]}
use Rattle.gabc_places.proofs.texts.PlacesOfCharacters.{placed-append}
use Rattle.gabc_places.proofs.laws.places_need_nothing_after.Goals as goal

pub returns : goal.returns
returns c = placed-append []
