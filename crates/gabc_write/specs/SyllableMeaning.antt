-- The meaning of a syllable: all that is reported of it but its spelling and its spans.
use Rattle.std.specs.Prelude.{◌≡◌, ℕ, List, map, Bool, Option}
use Rattle.std.specs.Option.{option_map}
use Rattle.gabc_places.specs.declared.place.Span.{Span}
use Rattle.gabc_text.specs.declared.styles.Style.{Style}
use Rattle.gabc_text.specs.declared.view.Piece.{Piece}
use Rattle.gabc_text.specs.declared.view.PieceKind.{PieceKind}
use Rattle.gabc_text.specs.Canonical.{listed_styles, canonical_text}
use Rattle.gabc_body.specs.declared.snippets.Snippet.{Snippet}
use Rattle.gabc_body.specs.declared.syllable.Position.{Position}
use Rattle.gabc_body.specs.Syllable.{PlacedSyllable, slice}

-- a piece of its text, in bytes
pub record PieceMeaning : Type 0 where
  pub kind : PieceKind
  pub styles : List Style
  pub text : List ℕ

-- Its canonical text, its pieces, the centre between them, the translation and the snippets with
-- their lines, its position in its word, and whether a span of several syllables is open at the end
-- of its text. Texts are bytes.
pub record SyllableMeaning : Type 0 where
  pub text : List ℕ
  pub word_start : Bool
  pub pieces : List PieceMeaning
  pub centre : Option Span
  pub translation : Option (List ℕ)
  pub snippets : List (ℕ × List ℕ)
  pub position : Position
  pub eu : Bool
  pub nlba : Bool

abbrev pub meaning_of_piece : List ℕ → Piece → PieceMeaning
meaning_of_piece kept p = record { kind = p.kind; styles = listed_styles p.styles; text = slice p.span kept }

abbrev pub meaning_of : PlacedSyllable → SyllableMeaning
meaning_of s = record {
  text = canonical_text s.made.text s.made.kept;
  word_start = s.made.text.word_start;
  pieces = map (meaning_of_piece s.made.kept) s.made.text.pieces;
  centre = s.made.text.centre;
  translation = option_map (λ (span : Span). slice span s.made.kept) s.made.text.translation;
  snippets = map (λ (x : Snippet). (x.line, slice x.span s.made.kept)) s.made.snippets;
  position = s.position;
  eu = s.made.eu;
  nlba = s.made.nlba;
}

-- these syllables say the same as those: they are as many, and each says the same
abbrev pub AreSame : List PlacedSyllable → List PlacedSyllable → Type 0
AreSame syllables others = map meaning_of syllables ≡ map meaning_of others
