use Rattle.std.proofs.Common.{arith}
use Rattle.std.proofs.lemmas.Grind.{common_steps}
use Rattle.gabc_svg.proofs.RowsOneByOne.{one_row}
use Rattle.gabc_svg.proofs.Written.{written-nothing}
use Rattle.gabc_svg.proofs.page.put_rows.Goals as goal

pub loop-rest-preserved : goal.loop-rest-preserved
loop-rest-preserved g c = record {
  within = omega arith;
  all = grind (arith, common_steps, one_row, g.met.S.Put.taken_both);
}

pub returns : goal.returns
returns g c = grind (arith, common_steps, written-nothing, g.met.S.Put.taken_nothing)
