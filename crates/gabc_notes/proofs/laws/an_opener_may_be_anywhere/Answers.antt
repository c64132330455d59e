use Rattle.gabc_notes.proofs.resuming.StagesTake.{opens_there}
use Rattle.gabc_notes.proofs.laws.an_opener_may_be_anywhere.Goals as goal

pub returns : goal.returns
returns c = opens_there
