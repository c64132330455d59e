use Rattle.gabc_nabc.proofs.StagesKeep.{keeps_agree}
use Rattle.gabc_nabc.proofs.laws.stages_after_one_text_agree.Goals as goal

pub returns : goal.returns
returns c = keeps_agree
