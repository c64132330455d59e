use Rattle.gabc_text.proofs.laws.the_next_character_stands_at_one_place.Goals as goal
use Rattle.gabc_text.proofs.resuming.NextPlaceDeterminesKeptPlaces.{one_place}

pub returns : goal.returns
returns c = one_place
