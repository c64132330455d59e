use Rattle.std.proofs.Common.{arith}
use Rattle.gregorio.proofs.PiecesAreSent.{cut_after_output, cut_in_output}
use Rattle.gregorio.proofs.run.send_both.Goals as goal

pub returns-in-Err-send_all-clause-cut : goal.returns-in-Err-send_all-clause-cut
returns-in-Err-send_all-clause-cut g c = grind (arith, cut_after_output)

pub returns-in-Err-clause-cut : goal.returns-in-Err-clause-cut
returns-in-Err-clause-cut g c = grind (arith, cut_in_output)
