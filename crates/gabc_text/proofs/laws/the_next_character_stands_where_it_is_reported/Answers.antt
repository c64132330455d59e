use Rattle.gabc_text.specs.witness.StageReports.{moved_to}
use Rattle.gabc_text.proofs.resuming.NextPlaceDeterminesKeptPlaces.{is_next}
use Rattle.gabc_text.proofs.laws.the_next_character_stands_where_it_is_reported.Goals as goal

pub returns-clause-stands : goal.returns-clause-stands
returns-clause-stands c = is_next

pub returns-clause-there : goal.returns-clause-there
returns-clause-there c = λ s at. is_next (moved_to at s)
