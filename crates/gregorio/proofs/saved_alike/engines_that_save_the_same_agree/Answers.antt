use Rattle.std.proofs.Common.{arith}
use Rattle.gregorio.proofs.pieces.EnginesAgree.{engines_agree}
use Rattle.gregorio.proofs.saved_alike.engines_that_save_the_same_agree.Goals as goal

pub returns : goal.returns
returns c one other may may_too name same = grind (arith, engines_agree)
