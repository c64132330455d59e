use Rattle.std.proofs.Common.{arith}
use Rattle.std.proofs.Math.ListN.{drop_of_length-le}
use Rattle.gabc_headers.proofs.entries.HeadersAreSpelled.{length-spelled}
use Rattle.gabc_headers.proofs.headers.Headers.none.Goals as goal

pub returns : goal.returns
returns c = grind (arith, length-spelled, drop_of_length-le)
