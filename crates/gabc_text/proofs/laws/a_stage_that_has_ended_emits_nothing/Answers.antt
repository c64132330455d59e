use Rattle.gabc_text.proofs.NothingAfterTheEnd.{ended_is_silent}
use Rattle.gabc_text.proofs.laws.a_stage_that_has_ended_emits_nothing.Goals as goal

pub returns-clause-silent : goal.returns-clause-silent
returns-clause-silent c = ended_is_silent
