use Rattle.std.proofs.Common.{arith}
use Rattle.std.proofs.lemmas.Str.{IsUtf8-string_bytes}
use Rattle.gabc_headers.proofs.stages.CharactersOfAStage.{keeps}
use Rattle.gabc_headers.proofs.header_stage.HeaderStage.book.Goals as goal

pub none-requires : goal.none-requires
none-requires c = grind (arith, keeps, IsUtf8-string_bytes)
