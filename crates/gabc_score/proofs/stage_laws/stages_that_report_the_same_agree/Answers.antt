use Rattle.std.proofs.Common.{arith}
use Rattle.gabc_score.proofs.resuming.StatesAgree.{states_agree}
use Rattle.gabc_score.proofs.stage_laws.stages_that_report_the_same_agree.Goals as goal

pub returns : goal.returns
returns c = grind (arith, states_agree)
