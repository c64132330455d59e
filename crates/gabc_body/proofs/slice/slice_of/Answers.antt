use Rattle.std.proofs.Common.{arith}
use Rattle.gabc_body.proofs.texts_of_body.SlicesOfTexts.{slice_within}
use Rattle.gabc_body.proofs.slice.slice_of.Goals as goal

pub returns : goal.returns
returns c = grind (arith, slice_within)
