-- The canonical text of a view, without its translation, in bytes of UTF-8.
use Rattle.std.specs.Prelude.{ℕ, ◌+◌, ◌==◌, List, [], ◌∷◌, ◌++◌, Bool, false, cond, not, ◌&&◌, nat_lt, length, Option, Some, None, reverse, codes, slice_range}
use Rattle.std.specs.List.{filter, flat_map}
use Rattle.gabc_places.specs.declared.place.Span.{Span}
use Rattle.gabc_text.specs.declared.styles.Style.{Style}
use Rattle.gabc_text.specs.declared.styles.Styles.{Styles}
use Rattle.gabc_text.specs.declared.view.PieceKind.{PieceKind}
use Rattle.gabc_text.specs.declared.view.PieceKind.TheVariants as piece
use Rattle.gabc_text.specs.declared.view.Piece.{Piece}
use Rattle.gabc_text.specs.TextView.{ViewContent}
use Rattle.gabc_text.specs.TextFacts.{has_style}
use Rattle.gabc_text.specs.Token.{is_special}
use Rattle.gabc_text.specs.TagNames.{all_styles, style_name}
use Rattle.gabc_text.specs.View.{is_same}

-- ---- the tags and braces of a boundary

-- the styles of a set, in the order in which they are printed
unfoldable pub listed_styles : Styles → List Style
listed_styles s = filter (λ r. has_style s r) all_styles

-- the rest of two lists of styles after their longest common prefix
abbrev pub after_common : List Style → List Style → List Style × List Style
after_common [] new = ([], new)
after_common (s ∷ old) [] = (s ∷ old, [])
after_common (s ∷ old) (r ∷ new) = cond (is_same s r) (after_common old new) (s ∷ old, r ∷ new)

abbrev pub style_opening : Style → List ℕ
style_opening s = codes "<" ++ (style_name s ++ codes ">")

abbrev pub style_closing : Style → List ℕ
style_closing s = codes "</" ++ (style_name s ++ codes ">")

-- the braces before the piece with the index
abbrev pub braces : Option Span → ℕ → List ℕ
braces None i = []
braces (Some c) i =
    cond (c.from == i) (cond (c.to == i) (codes "{}") (codes "{"))
    (cond (c.to == i) (codes "}") [])

-- Between two neighbours with these styles: the first one's styles that do not stay open are closed
-- from the last on, then come the braces, then the second one's other styles are opened.
abbrev pub boundary : List Style → List Style → List ℕ → List ℕ
boundary old new middle = flat_map style_closing (reverse (after_common old new).0) ++ (middle ++ flat_map style_opening (after_common old new).1)

-- ---- the pieces

-- the bytes of a span in the kept text: none, if it does not lie in it
abbrev pub span_bytes : List ℕ → Span → List ℕ
span_bytes kept s = cond (not (nat_lt s.to s.from) && not (nat_lt (length kept) s.to)) (slice_range kept s.from s.to) []

-- one of the characters that a `$` makes letters
abbrev pub needs_dollar : List ℕ → Bool
needs_dollar [] = false
needs_dollar (c ∷ []) = is_special c
needs_dollar (c ∷ d ∷ t) = false

abbrev pub with_dollar : List ℕ → List ℕ
with_dollar t = cond (needs_dollar t) (codes "$") [] ++ t

abbrev pub piece_text_by : PieceKind → List ℕ → List ℕ
piece_text_by piece.Char t = with_dollar t
piece_text_by piece.Blank t = codes " "
piece_text_by _ t = t

abbrev pub piece_text : List ℕ → Piece → List ℕ
piece_text kept p = piece_text_by p.kind (span_bytes kept p.span)

-- ---- the text

-- the pieces from index i on, after a piece with the styles old
abbrev pub text_from : Option Span → List ℕ → ℕ → List Style → List Piece → List ℕ
text_from centre kept i old [] = boundary old [] (braces centre i)
text_from centre kept i old (p ∷ ps) = boundary old (listed_styles p.styles) (braces centre i) ++ (piece_text kept p ++ text_from centre kept (i + 1) (listed_styles p.styles) ps)

-- the text of a view whose spans count the bytes of kept
abbrev pub canonical_text : ViewContent → List ℕ → List ℕ
canonical_text v kept = text_from v.centre kept 0 [] v.pieces
