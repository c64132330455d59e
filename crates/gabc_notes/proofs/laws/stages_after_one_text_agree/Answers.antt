use Rattle.gabc_notes.proofs.resuming.KeptTextGivesStage.{keeps_agree}
use Rattle.gabc_notes.proofs.laws.stages_after_one_text_agree.Goals as goal

pub returns : goal.returns
returns c = keeps_agree
