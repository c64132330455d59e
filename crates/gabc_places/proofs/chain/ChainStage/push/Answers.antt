use Rattle.std.proofs.Common.{arith}
use Rattle.gabc_places.proofs.ChainKeepsEvents.{joined-regrouped}
use Rattle.gabc_places.proofs.chain.ChainStage.push.Goals as goal

pub returns-clause-end : goal.returns-clause-end
returns-clause-end g c before after x e is_end = grind (arith, joined-regrouped)
