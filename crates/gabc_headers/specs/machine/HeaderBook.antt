-- The invariant of a book.
use Rattle.std.specs.Prelude.{ℕ, ◌<◌, ◌^◌, List}
use Rattle.gabc_places.specs.declared.place.Span.{Span}
use Rattle.gabc_headers.specs.declared.entry_map.Key.{Key}
use Rattle.gabc_headers.specs.Lines.{bytes_len}
use Rattle.gabc_headers.specs.Canonical.{canonical_heads}
use Rattle.gabc_headers.specs.Entries.{spelled_entries}
use Rattle.gabc_headers.specs.machine.EntryMap.{AreWithin}

-- the values lie in the text, and the canonical lines with `%%` have less than 2^32 bytes
pub record IsBook (text : List ℕ) (es : List (Key × Span)) : Type 0 where
  pub within : AreWithin text es
  pub small : bytes_len (canonical_heads (spelled_entries text es)) < 2 ^ 32
