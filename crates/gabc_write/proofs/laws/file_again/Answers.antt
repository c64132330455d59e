use Rattle.std.proofs.Common.{arith}
use Rattle.gabc_write.proofs.reading_again.PrintedFileIsReadAgain.{file_is}
use Rattle.gabc_write.proofs.laws.file_again.Goals as goal

pub returns : goal.returns
returns c limits larger t heads facts no_less ok are first = grind (arith, file_is)
