-- The text that the code has still to put while it reads the pieces of a view.
use Rattle.std.specs.Prelude.{ℕ, List, ◌++◌, Option, drop}
use Rattle.gabc_places.specs.declared.place.Span.{Span}
use Rattle.gabc_text.specs.declared.canonical.Run.{Run}
use Rattle.gabc_text.specs.declared.styles.Styles.{Styles}
use Rattle.gabc_text.specs.declared.view.Piece.{Piece}
use Rattle.gabc_text.specs.declared.view.TextView.{TextView}
use Rattle.gabc_text.specs.Canonical.{listed_styles, span_bytes, text_from}

-- the text of the pieces from an index on, after a piece with these styles
abbrev pub text_at : TextView → List ℕ → Styles → ℕ → List ℕ
text_at v kept old i = text_from v.centre kept i (listed_styles old) (drop i v.pieces.items)

-- the text of a run of these pieces and of those after it, whose styles are these
abbrev pub text_after_run : Option Span → List Piece → List ℕ → Styles → Run → List ℕ
text_after_run centre pieces kept old r = span_bytes kept r.span ++ text_from centre kept r.next (listed_styles old) (drop r.next pieces)

-- the same of the pieces of a view
abbrev pub text_after : TextView → List ℕ → Styles → Run → List ℕ
text_after v = text_after_run v.centre v.pieces.items
