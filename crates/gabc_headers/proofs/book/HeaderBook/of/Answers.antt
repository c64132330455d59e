use Rattle.std.proofs.Common.{arith}
use Rattle.gabc_headers.proofs.entries.TextsGoOn.{spelled_shorter}
use Rattle.gabc_headers.proofs.book.HeaderBook.of.Goals as goal

pub invariant_of-result : goal.invariant_of-result
invariant_of-result c = grind (arith, spelled_shorter)

pub returns : goal.returns
returns c = grind (arith, spelled_shorter)
