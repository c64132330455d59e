use Rattle.gabc_score.proofs.score_events.NoStopWhereInputsCease.{no_stop}
use Rattle.gabc_score.proofs.stage_laws.inputs_that_cease_give_no_stop.Goals as goal

pub returns : goal.returns
returns c = record { findings = λ s. (no_stop s).findings; stop = λ s. (no_stop s).stop; end = λ s. (no_stop s).end }
