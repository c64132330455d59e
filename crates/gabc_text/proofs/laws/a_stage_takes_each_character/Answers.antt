use Rattle.gabc_text.proofs.resuming.StagesKeep.{fresh_keeps}
use Rattle.gabc_text.proofs.resuming.StagesTake.{takes}
use Rattle.gabc_text.proofs.laws.a_stage_takes_each_character.Goals as goal

pub returns-clause-fresh : goal.returns-clause-fresh
returns-clause-fresh c = fresh_keeps

pub returns-clause-takes : goal.returns-clause-takes
returns-clause-takes c = λ s d on. takes s d
