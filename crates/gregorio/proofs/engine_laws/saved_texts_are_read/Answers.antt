use Rattle.std.proofs.Common.{arith}
use Rattle.gregorio.proofs.pieces.PartsStayInStep.{in_body}
use Rattle.gregorio.proofs.pieces.StatesAreRead.{state_is_read, texts_are_utf8}
use Rattle.gregorio.proofs.engine_laws.saved_texts_are_read.Goals as goal

pub texts_of_a_score_are_read-requires-clause-body : goal.texts_of_a_score_are_read-requires-clause-body
texts_of_a_score_are_read-requires-clause-body c = grind (arith, in_body)

pub texts_of_a_score_are_read-requires-clause-texts : goal.texts_of_a_score_are_read-requires-clause-texts
texts_of_a_score_are_read-requires-clause-texts c = grind (arith, texts_are_utf8)

pub returns-then-headed : goal.returns-then-headed
returns-then-headed c = grind (arith, state_is_read)

pub returns-else-headed : goal.returns-else-headed
returns-else-headed c = grind (arith, state_is_read)
