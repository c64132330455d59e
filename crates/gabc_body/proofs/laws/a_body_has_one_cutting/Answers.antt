use Rattle.gabc_body.proofs.units.BodyHasOneCutting.{one, no_other}
use Rattle.gabc_body.proofs.laws.a_body_has_one_cutting.Goals as goal

pub returns : goal.returns
returns c = record { one = one; no_other = no_other }
