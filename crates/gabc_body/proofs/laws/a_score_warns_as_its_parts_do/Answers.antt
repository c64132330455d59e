use Rattle.gabc_body.proofs.order.PartsThatWarn.{score_warns}
use Rattle.gabc_body.proofs.laws.a_score_warns_as_its_parts_do.Goals as goal

pub returns : goal.returns
returns c = score_warns c.findings_lie_within.ensures.all
