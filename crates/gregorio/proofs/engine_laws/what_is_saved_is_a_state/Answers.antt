use Rattle.gregorio.proofs.pieces.StatesAreRead.{is_a_state}
use Rattle.gregorio.proofs.engine_laws.what_is_saved_is_a_state.Goals as goal

pub returns : goal.returns
returns c = is_a_state c.args.engine.now c.saved_fields_are_those_of_a_state.ensures c.saved_texts_are_read.ensures
