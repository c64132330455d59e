-- What stands in a text stands in a longer one.
use Rattle.std.proofs.Common.{ℕ, Option, List, [], ◌∷◌, ◌++◌, append_assoc, arith}
use Rattle.gabc_places.specs.declared.place.Span.{Span}
use Rattle.gabc_text.specs.declared.view.Piece.{Piece}
use Rattle.gabc_text.specs.TextView.{ViewContent}
use Rattle.gabc_text.specs.View.{PieceFacts}
use Rattle.gabc_text.specs.ViewFacts.{StandsFor, ArePiecesOf, IsTranslation, StandsForView}

module _ (text more : List ℕ) where
  span_more : (span : Span) (part : List ℕ) → StandsFor text span part → StandsFor (text ++ more) span part
  span_more span part h = grind (arith, append_assoc)

  pieces_more : (ps : List Piece) (qs : List PieceFacts) → ArePiecesOf text ps qs → ArePiecesOf (text ++ more) ps qs
  pieces_more [] [] h = tt
  pieces_more [] (q ∷ qs) h = absurd h
  pieces_more (p ∷ ps) [] h = absurd h
  pieces_more (p ∷ ps) (q ∷ qs) h = (record { kind_is = h.0.kind_is; styles_are = h.0.styles_are; stands = span_more p.span _ h.0.stands }, pieces_more ps qs h.1)

  translation_more : (o : Option Span) (t : Option (List ℕ)) → IsTranslation text o t → IsTranslation (text ++ more) o t
  translation_more o t h = grind (arith, span_more)

  pub view_more : (v : ViewContent) (t : List ℕ) → StandsForView text v t → StandsForView (text ++ more) v t
  view_more v t h = record { pieces = pieces_more v.pieces _ h.pieces; centre = h.centre; translation = translation_more v.translation _ h.translation }
