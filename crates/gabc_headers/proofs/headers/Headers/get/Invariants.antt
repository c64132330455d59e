use Rattle.std.proofs.Common.{◌≡◌, drop}
use Rattle.std.specs.Str.{chars}
use Rattle.gabc_headers.specs.Book.{value_named}
use Rattle.gabc_headers.specs.Entries.{spelled_entries}
use Rattle.gabc_headers.proofs.headers.Headers.get.Given as goal

abbrev pub invariant-loop-index : goal.invariant-loop-index
invariant-loop-index l = value_named (chars l.name) l.self ≡ value_named (chars l.name) (drop l.index (spelled_entries l.self-inside.text.now l.self-inside.headers.now.0))
