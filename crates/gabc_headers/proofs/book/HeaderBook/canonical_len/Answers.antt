use Rattle.std.proofs.Common.{◌∙◌, sym, arith}
use Rattle.gabc_headers.specs.Canonical.{canonical_heads}
use Rattle.gabc_headers.proofs.entries.TextsAsBytes.{length-encodes}
use Rattle.gabc_headers.proofs.book.HeaderBook.canonical_len.Goals as goal

pub returns-clause-len : goal.returns-clause-len
returns-clause-len c = grind arith

pub returns-clause-bytes : goal.returns-clause-bytes
returns-clause-bytes c = returns-clause-len c ∙ sym (length-encodes (canonical_heads c.args.self.now))
