use Rattle.std.specs.String.{string_bytes}
use Rattle.gabc_headers.proofs.entries.HeadersAreSpelled.{length-spelled, name_spelled}
use Rattle.gabc_headers.proofs.book.HeaderBook.name.Goals as goal

pub name-requires : goal.name-requires
name-requires c = rw (← length-spelled (string_bytes c.self.inside.text) c.self.inside.headers.0, c.self.view_is) c.requires

pub returns : goal.returns
returns c = rw (← c.self.view_is) (name_spelled (string_bytes c.self.inside.text) c.self.inside.headers.0 c.args.index c.name.result.now c.name.ensures)
