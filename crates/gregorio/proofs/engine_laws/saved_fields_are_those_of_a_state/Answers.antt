use Rattle.std.proofs.Common.{arith}
use Rattle.gregorio.proofs.pieces.StatesAreWhole.{state_is_whole}
use Rattle.gregorio.proofs.engine_laws.saved_fields_are_those_of_a_state.Goals as goal

pub returns : goal.returns
returns c = grind (arith, state_is_whole)
