use Rattle.std.proofs.Common.{arith}
use Rattle.std.proofs.lemmas.Str.{IsUtf8-string_bytes}
use Rattle.gabc_headers.proofs.stages.CharactersOfAStage.{end_reading, end_after, end_stopped, end_over, keeps, nothing_added, shows_over, stands_over}
use Rattle.gabc_headers.proofs.stages.EventsOfAStage.{emits_end}
use Rattle.gabc_headers.proofs.header_stage.HeaderStage.end.Goals as goal
use Rattle.gabc_headers.proofs.header_stage.HeaderStage.end.Goals.{in-InHeaders+in-Text, in-After, in-Stopped, in-Over}

pub returns-clause-out : goal.returns-clause-out
returns-clause-out c = grind (arith, emits_end, IsUtf8-string_bytes, end_reading, end_after, nothing_added, end_stopped, end_over)

pub invariant_of-self : goal.invariant_of-self
invariant_of-self c = grind (arith, stands_over, keeps, IsUtf8-string_bytes)

pub returns-clause-state : goal.returns-clause-state
returns-clause-state c = grind (arith, shows_over)
