use Rattle.std.proofs.Common.{refl}
use Rattle.std.specs.String.{string_bytes}
use Rattle.gabc_headers.proofs.entries.HeadersAreSpelled.{length-spelled}
use Rattle.gabc_headers.proofs.book.HeaderBook.is_empty.Goals as goal

pub returns : goal.returns
returns c = rw (← c.self.view_is, length-spelled (string_bytes c.self.inside.text) c.self.inside.headers.0, c.len.ensures) refl
