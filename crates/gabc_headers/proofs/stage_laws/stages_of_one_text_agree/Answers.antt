use Rattle.std.proofs.Common.{arith}
use Rattle.gabc_headers.proofs.stage_laws.stages_of_one_text_agree.Goals as goal

pub returns : goal.returns
returns c = grind arith
