use Rattle.std.proofs.Common.{arith}
use Rattle.std.proofs.lemmas.Result.{IfOk-weaker}
use Rattle.gabc_score.proofs.stage_laws.a_fresh_stage_reads_texts.Goals as goal

pub returns : goal.returns
returns c = grind (arith, IfOk-weaker)
