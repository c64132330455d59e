use Rattle.std.proofs.Common.{arith}
use Rattle.gabc_headers.proofs.canonical_form.HeaderBytes.{header_text_is}
use Rattle.gabc_headers.proofs.canonical.put_header.Goals as goal

pub returns : goal.returns
returns g c = grind (arith, header_text_is)
