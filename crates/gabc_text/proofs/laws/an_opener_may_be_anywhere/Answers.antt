use Rattle.gabc_text.proofs.resuming.StagesTake.{opens_there}
use Rattle.gabc_text.proofs.laws.an_opener_may_be_anywhere.Goals as goal

pub returns : goal.returns
returns c = opens_there
