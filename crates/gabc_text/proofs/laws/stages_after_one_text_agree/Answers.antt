use Rattle.gabc_text.proofs.resuming.StagesKeep.{kept_suffices}
use Rattle.gabc_text.proofs.laws.stages_after_one_text_agree.Goals as goal

pub returns : goal.returns
returns c = kept_suffices
