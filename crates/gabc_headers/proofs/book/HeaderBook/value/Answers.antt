use Rattle.std.specs.String.{string_bytes}
use Rattle.gabc_headers.proofs.entries.HeadersAreSpelled.{length-spelled}
use Rattle.gabc_headers.proofs.book.HeaderBook.value.Goals as goal

pub value_in-requires-clause-index : goal.value_in-requires-clause-index
value_in-requires-clause-index c = rw (← length-spelled (string_bytes c.self.inside.text) c.self.inside.headers.0, c.self.view_is) c.requires
