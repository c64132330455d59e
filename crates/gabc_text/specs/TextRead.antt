-- The reading of a text by `text_whole`.
use Rattle.std.specs.Prelude.{◌≡◌, ℕ, List, [], ◌∷◌, ◌&&◌, not, cond, Option, Some, None, length, reverse, string_bytes, encode_utf8_all}
use Rattle.gabc_places.specs.declared.place.Place.{Place}
use Rattle.gabc_places.specs.declared.place.Span.{Span}
use Rattle.gabc_text.specs.declared.view.Piece.{Piece}
use Rattle.gabc_text.specs.TextView.{ViewContent, content_of}
use Rattle.gabc_text.specs.declared.whole.TextRead.{TextRead}
use Rattle.gabc_text.specs.Token.{Token, tokens}
use Rattle.gabc_text.specs.View.{along, kept, findings, ending_in, starts_word, has_translation, is_blank_piece, begin_of, end_of, centre_by}
use Rattle.gabc_text.specs.Events.{all_pieces_at, is_whole_translation, translation_at}

-- the pieces but for a blank at their end
abbrev pub but_last_blank : List Piece → List Piece
but_last_blank [] = []
but_last_blank (p ∷ []) = cond (is_blank_piece p.kind) [] (p ∷ [])
but_last_blank (p ∷ q ∷ ps) = p ∷ but_last_blank (q ∷ ps)

abbrev pub pieces_in : List ℕ → List Piece
pieces_in t = but_last_blank (along all_pieces_at [] (tokens t))

-- the first translation, if it is ended
abbrev pub translation_of : List Token → Option Span
translation_of [] = None
translation_of (k ∷ before) = cond (is_whole_translation k.kind && not (has_translation before)) (Some (translation_at before k)) (translation_of before)

abbrev pub view_in : List ℕ → ViewContent
view_in t = record {
  word_start = starts_word (reverse (tokens t));
  pieces = pieces_in t;
  centre = centre_by (length (pieces_in t)) (begin_of (reverse (tokens t))) (end_of (reverse (tokens t)));
  translation = translation_of (reverse (tokens t));
}

pub record IsTextRead (at : Place) (t : List ℕ) (r : TextRead) : Type 0 where
  pub kept_is : string_bytes r.kept ≡ encode_utf8_all (kept t)
  pub view_is : content_of r.view ≡ view_in t
  pub findings_are : r.findings ≡ findings at t
  pub how_is : r.how ≡ ending_in at t
