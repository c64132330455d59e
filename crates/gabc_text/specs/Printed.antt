-- The printed form of what a text says, as tokens: its canonical text, with the LF before a word
-- and the translation.
use Rattle.std.specs.Prelude.{ℕ, ◌+◌, List, [], ◌∷◌, ◌++◌, Bool, true, false, cond, ◌==◌, Option, Some, None, map, reverse, codes}
use Rattle.std.specs.List.{concat}
use Rattle.gabc_text.specs.declared.styles.Style.{Style}
use Rattle.gabc_text.specs.declared.view.PieceKind.{PieceKind}
use Rattle.gabc_text.specs.declared.view.PieceKind.TheVariants as piece
use Rattle.gabc_text.specs.declared.token.TokenKind.{TokenKind}
use Rattle.gabc_text.specs.declared.token.TokenKind.TheVariants as kind
use Rattle.gabc_text.specs.TagNames.{style_name}
use Rattle.gabc_text.specs.Token.{Token, spelling, is_special}
use Rattle.gabc_places.specs.declared.place.Span.{Span}
use Rattle.gabc_text.specs.View.{PieceFacts}
use Rattle.gabc_text.specs.ViewFacts.{ViewFacts}
use Rattle.gabc_text.specs.Canonical.{after_common}

abbrev pub opening_tag : Style → Token
opening_tag s = record { kind = kind.Tag; first = 60; more = style_name s ++ codes ">" }

abbrev pub closing_tag : Style → Token
closing_tag s = record { kind = kind.Tag; first = 60; more = codes "/" ++ (style_name s ++ codes ">") }

-- the braces at a position
abbrev pub begin_brace : Token
begin_brace = record { kind = kind.Begin; first = 123; more = [] }

abbrev pub end_brace : Token
end_brace = record { kind = kind.End; first = 125; more = [] }

abbrev pub brace_tokens : Option Span → ℕ → List Token
brace_tokens None i = []
brace_tokens (Some c) i =
    cond (c.from == i) (cond (c.to == i) (begin_brace ∷ end_brace ∷ []) (begin_brace ∷ []))
    (cond (c.to == i) (end_brace ∷ []) [])

-- between two pieces, or before the first and after the last
abbrev pub tokens_between : List Style → List Style → List Token → List Token
tokens_between old new middle = map closing_tag (reverse (after_common old new).0) ++ middle ++ map opening_tag (after_common old new).1

abbrev pub letter : List ℕ → Token
letter [] = record { kind = kind.Letter; first = 36; more = [] }
letter (c ∷ s) = cond (is_special c) (record { kind = kind.Letter; first = 36; more = c ∷ [] }) (record { kind = kind.Letter; first = c; more = [] })

abbrev pub spelled_as : TokenKind → List ℕ → Token
spelled_as k [] = record { kind = k; first = 60; more = [] }
spelled_as k (c ∷ s) = record { kind = k; first = c; more = s }

abbrev pub printed_piece : PieceKind → List ℕ → Token
printed_piece piece.Char t = letter t
printed_piece piece.Blank t = record { kind = kind.Blank; first = 32; more = [] }
printed_piece piece.Raw t = spelled_as kind.Raw t
printed_piece piece.Tag t = spelled_as kind.Tag t
printed_piece piece.Mark t = spelled_as kind.Tag t

-- the pieces from position i on, after a piece with the styles old
abbrev pub print_from : Option Span → ℕ → List Style → List PieceFacts → List Token
print_from centre i old [] = tokens_between old [] (brace_tokens centre i)
print_from centre i old (p ∷ ps) = tokens_between old p.styles (brace_tokens centre i) ++ printed_piece p.kind p.text ∷ print_from centre (i + 1) p.styles ps

abbrev pub translation_tokens : Option (List ℕ) → List Token
translation_tokens None = []
translation_tokens (Some t) = record { kind = kind.Translation; first = 91; more = t ++ 93 ∷ [] } ∷ []

abbrev pub word_break : Bool → List Token
word_break true = record { kind = kind.Blank; first = 10; more = [] } ∷ []
word_break false = []

-- the text without translation, and all of it, with the LF before a word
abbrev pub text_tokens : ViewFacts → List Token
text_tokens v = print_from v.centre 0 [] v.pieces

abbrev pub print_tokens : ViewFacts → List Token
print_tokens v = word_break v.word_start ++ text_tokens v ++ translation_tokens v.translation

abbrev pub text_of_tokens : List Token → List ℕ
text_of_tokens ks = concat (map spelling ks)

abbrev pub print : ViewFacts → List ℕ
print v = text_of_tokens (print_tokens v)
