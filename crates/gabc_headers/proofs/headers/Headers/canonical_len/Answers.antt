use Rattle.std.proofs.Common.{arith}
use Rattle.gabc_headers.proofs.entries.TextsAsBytes.{length-encodes}
use Rattle.gabc_headers.proofs.headers.Headers.canonical_len.Goals as goal

pub returns : goal.returns
returns c = grind (arith, length-encodes)
