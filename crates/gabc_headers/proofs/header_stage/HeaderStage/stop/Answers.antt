use Rattle.std.proofs.Common.{arith}
use Rattle.std.proofs.lemmas.Str.{IsUtf8-string_bytes}
use Rattle.gabc_headers.proofs.stages.CharactersOfAStage.{keeps, shows_over, stands_over}
use Rattle.gabc_headers.proofs.header_stage.HeaderStage.stop.Goals as goal

pub invariant_of-self : goal.invariant_of-self
invariant_of-self c = grind (arith, stands_over, keeps, IsUtf8-string_bytes)

pub returns-clause-state : goal.returns-clause-state
returns-clause-state c = grind (arith, shows_over)
