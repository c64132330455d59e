use Rattle.std.proofs.Common.{arith}
use Rattle.std.proofs.lemmas.Grind.{common_steps}
use Rattle.gabc_svg.proofs.Written.{written-and_then}
use Rattle.gabc_svg.proofs.page.put_inner.Goals as goal

pub returns : goal.returns
returns g c = grind (arith, common_steps, written-and_then, g.met.S.Put.taken_both)
