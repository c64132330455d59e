-- The content of a view of a text.
use Rattle.std.specs.Prelude.{List, Bool, Option}
use Rattle.gabc_places.specs.declared.place.Span.{Span}
use Rattle.gabc_text.specs.declared.view.Piece.{Piece}
use Rattle.gabc_text.specs.declared.view.TextView.{TextView}

-- the content of a view, without its capacity
pub record ViewContent : Type 0 where
  pub word_start : Bool
  pub pieces : List Piece
  pub centre : Option Span
  pub translation : Option Span

abbrev pub content_of : TextView → ViewContent
content_of v = record { word_start = v.word_start; pieces = v.pieces.items; centre = v.centre; translation = v.translation }
