use Rattle.std.proofs.Common.{arith}
use Rattle.std.proofs.lemmas.Str.{IsUtf8-string_bytes}
use Rattle.gabc_headers.proofs.stages.PendingHeadersRoundTrip.{is_held}
use Rattle.gabc_headers.proofs.header_stage.HeaderStage.text.Goals as goal

pub returns-in-InHeaders-clause-held : goal.returns-in-InHeaders-clause-held
returns-in-InHeaders-clause-held c = grind (arith, is_held, IsUtf8-string_bytes)
