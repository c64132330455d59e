-- Spans of a text's bytes.
use Rattle.std.specs.Prelude.{ℕ, ◌≤◌, List, IsCharBoundary}
use Rattle.gabc_places.specs.declared.place.Span.{Span}

-- the span lies in the text, between characters
pub record IsWithin (text : List ℕ) (s : Span) : Type 0 where
  pub order : s.from ≤ s.to
  pub first : IsCharBoundary text s.from
  pub last : IsCharBoundary text s.to
