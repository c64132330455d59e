-- The names and values of a book of headers: the names of its keys, with the characters of their
-- spans of a text.
use Rattle.std.specs.Prelude.{ℕ, List, codes, map, slice_range}
use Rattle.std.specs.Str.{chars}
use Rattle.gabc_places.specs.declared.place.Span.{Span}
use Rattle.gabc_headers.specs.declared.entry_map.Key.{Key}
use Rattle.gabc_headers.specs.declared.entry_map.Key.TheVariants.{Name, Annotation}

-- the name of a key
abbrev pub key_name : Key → List ℕ
key_name (Name s) = chars s.bytes
key_name (Annotation i) = codes "annotation"

-- the characters of a span of a text's bytes
abbrev pub text_at : List ℕ → Span → List ℕ
text_at text s = chars (slice_range text s.from s.to)

-- the names of the keys, each with the characters of its span of a text's bytes
abbrev pub spelled_entries : List ℕ → List (Key × Span) → List (List ℕ × List ℕ)
spelled_entries text es = map (λ e. (key_name e.0, text_at text e.1)) es
