-- What a stage of headers shows of its fields.
use Rattle.std.specs.Prelude.{ℕ, List, []}
use Rattle.std.specs.Str.{chars}
use Rattle.gabc_places.specs.declared.place.Span.{Span}
use Rattle.gabc_headers.specs.declared.entry_map.Key.{Key}
use Rattle.gabc_headers.specs.declared.header_stage.HeadPart.{HeadPart}
use Rattle.gabc_headers.specs.declared.header_stage.HeadPart.TheVariants.{InHeaders, After, Stopped, Over}
use Rattle.gabc_headers.specs.Entries.{spelled_entries}
use Rattle.gabc_headers.specs.witness.HeadEvents.{HeadProgress, reading, after_headers, over}

-- what is borrowed: the headers, once they are whole
abbrev pub book_in : HeadPart → List ℕ → List (Key × Span) → List (List ℕ × List ℕ)
book_in InHeaders text headers = []
book_in After text headers = spelled_entries text headers
book_in Stopped text headers = []
book_in Over text headers = spelled_entries text headers

-- where it stands
abbrev pub progress_in : HeadPart → List ℕ → List (List ℕ × List ℕ) → HeadProgress
progress_in InHeaders text book = reading (chars text)
progress_in After text book = after_headers book
progress_in Stopped text book = over
progress_in Over text book = over
