use Rattle.std.proofs.Common.{arith}
use Rattle.gregorio.proofs.setting_down.StateIsRead.{score_is_read}
use Rattle.gregorio.proofs.set_down.read_texts.Goals as goal

pub returns-clause-read : goal.returns-clause-read
returns-clause-read c = grind (arith, score_is_read)
