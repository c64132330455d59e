use Rattle.std.proofs.Common.{◌∙◌}
use Rattle.gabc_places.proofs.ChainKeepsEvents.{joined-regrouped}
use Rattle.gabc_places.proofs.NothingAfterAnEnd.{stops-ended}
use Rattle.gabc_places.proofs.chain.ChainStage.finish.Goals as goal

pub returns-clause-end : goal.returns-clause-end
returns-clause-end g c before after x e is_end =
    let k =
    stops-ended g.B.Stage.is_end (g.B.Stage.rest c.finish-2.new.self) c.push_all.ensures.events c.finish-2.ensures.ends c.finish-2.ensures.over c.push_all.ensures.end c.finish-2.ensures.end
    before after x e is_end in
    (k.0, λ xs. joined-regrouped xs _ _ ∙ k.1 _)

pub returns-clause-over : goal.returns-clause-over
returns-clause-over g c xs = joined-regrouped xs _ _ ∙ c.finish-2.ensures.over _
