use Rattle.gabc_body.specs.Events.{texts_by_definition}
use Rattle.gabc_body.proofs.units.BodyHasOneCutting.{body_emits_all}
use Rattle.gabc_body.proofs.laws.a_body_emits_the_events_of_its_units.Goals as goal

pub returns : goal.returns
returns c = body_emits_all texts_by_definition
