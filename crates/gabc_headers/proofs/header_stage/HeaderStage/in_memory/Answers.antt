use Rattle.std.proofs.Common.{arith}
use Rattle.std.proofs.lemmas.Str.{chars-nil}
use Rattle.gabc_headers.proofs.header_stage.HeaderStage.in_memory.Goals as goal

pub invariant_of-result : goal.invariant_of-result
invariant_of-result c = grind (arith, chars-nil)

pub returns : goal.returns
returns c = grind (arith, chars-nil)
