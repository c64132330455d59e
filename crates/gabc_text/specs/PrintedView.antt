-- What is printed of a view: its bytes in front of the `(`.
use Rattle.std.specs.Prelude.{ℕ, List, [], ◌∷◌, ◌++◌, cond, Option, Some, None, codes}
use Rattle.gabc_places.specs.declared.place.Span.{Span}
use Rattle.gabc_text.specs.TextView.{ViewContent}
use Rattle.gabc_text.specs.Canonical.{span_bytes, canonical_text}

-- a translation between its brackets
abbrev pub printed_translation : List ℕ → Option Span → List ℕ
printed_translation kept None = []
printed_translation kept (Some s) = codes "[" ++ (span_bytes kept s ++ codes "]")

-- the LF before a word, the canonical text, and the translation, of a view whose spans count the
-- bytes of kept
abbrev pub printed_view : ViewContent → List ℕ → List ℕ
printed_view v kept = cond v.word_start (10 ∷ []) [] ++ (canonical_text v kept ++ printed_translation kept v.translation)
