use Rattle.std.proofs.Common.{arith}
use Rattle.std.proofs.lemmas.Str.{chars-nil, IsUtf8-string_bytes}
use Rattle.gabc_headers.proofs.stages.CharactersOfAStage.{keeps}
use Rattle.gabc_headers.proofs.header_stage.HeaderStage.restart.Goals as goal

pub invariant_of-self : goal.invariant_of-self
invariant_of-self c = grind (arith, keeps, IsUtf8-string_bytes, chars-nil)

pub returns : goal.returns
returns c = grind (arith, chars-nil)
