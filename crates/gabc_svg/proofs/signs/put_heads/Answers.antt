use Rattle.std.proofs.Common.{arith}
use Rattle.std.proofs.lemmas.Grind.{common_steps}
use Rattle.gabc_svg.proofs.Written.{written-and_then, written-nothing}
use Rattle.gabc_svg.proofs.signs.put_heads.Goals as goal

pub loop-rest-preserved : goal.loop-rest-preserved
loop-rest-preserved g c = grind (arith, common_steps, written-and_then, g.met.S.Put.taken_both)

pub returns : goal.returns
returns g c = grind (arith, common_steps, written-nothing, g.met.S.Put.taken_nothing)
