-- What a plain text says is printed as plain text.
use Rattle.std.proofs.Common.{◌≡◌, ℕ, ◌+◌, List, [], ◌∷◌, ◌++◌, Bool, true, ◌&&◌, not, refl, sym, ap, ◌∙◌, reverse, map, Option, Some, None, arith}
use Rattle.std.proofs.lemmas.Bool.{and_parts, and_from}
use Rattle.std.specs.List.{list_all}
use Rattle.gabc_places.specs.declared.place.Span.{Span}
use Rattle.gabc_text.specs.declared.styles.Style.{Style}
use Rattle.gabc_text.specs.declared.styles.Style.TheVariants.{B}
use Rattle.gabc_text.specs.declared.view.PieceKind.{PieceKind}
use Rattle.gabc_text.specs.declared.view.PieceKind.TheVariants as piece
use Rattle.gabc_text.specs.declared.token.TokenKind.{TokenKind}
use Rattle.gabc_text.specs.declared.token.TokenKind.TheVariants as kind
use Rattle.gabc_text.specs.Token.{Token, spelling, tokens, is_special}
use Rattle.gabc_text.specs.View.{along, PieceFacts, pieces_at, piece_of, kind_of, text_of_piece, last_of, open_styles, is_blank_piece, is_space, has_word, follows_blank, has_translation}
use Rattle.gabc_text.specs.ViewFacts.{view_facts, but_blank, but_end, translation_text}
use Rattle.gabc_text.specs.Events.{but_last, is_whole_translation}
use Rattle.gabc_text.specs.Printed.{closing_tag, opening_tag, brace_tokens, tokens_between, letter, spelled_as, printed_piece, print_from, translation_tokens, word_break, text_of_tokens, print}
use Rattle.gabc_text.proofs.tokens.TextIsTokensAndRest.{parted}
use Rattle.gabc_write.proofs.plain.PlainCharacters.{plain_option, is_plain, plain, append, parts_of, reversed, either}

-- ---- tokens

abbrev is_plain_token : Token → Bool
is_plain_token k = plain (spelling k)

abbrev plain_tokens : List Token → Bool
plain_tokens ks = list_all is_plain_token ks

tokens_of : (ks : List Token) → plain (text_of_tokens ks) ≡ true → plain_tokens ks ≡ true
tokens_of [] h = refl
tokens_of (k ∷ ks) h =
    let g = parts_of is_plain (spelling k) (text_of_tokens ks) h in
    and_from (is_plain_token k) (plain_tokens ks) g.0 (tokens_of ks g.1)

text_of_plain : (ks : List Token) → plain_tokens ks ≡ true → plain (text_of_tokens ks) ≡ true
text_of_plain [] h = refl
text_of_plain (k ∷ ks) h =
    let g = and_parts (is_plain_token k) (plain_tokens ks) h in
    append is_plain (spelling k) (text_of_tokens ks) g.0 (text_of_plain ks g.1)

plain_cut : (t : List ℕ) → plain t ≡ true → plain_tokens (tokens t) ≡ true
plain_cut t h =
    let p = parted t in
    tokens_of (tokens t) (parts_of is_plain (text_of_tokens (tokens t)) p.rest (sym (ap plain p.parts) ∙ h)).0

-- ---- pieces

abbrev is_plain_piece : PieceFacts → Bool
is_plain_piece p = plain p.text

abbrev plain_pieces : List PieceFacts → Bool
plain_pieces ps = list_all is_plain_piece ps

last_plain : (c : ℕ) (s : List ℕ) → plain (c ∷ s) ≡ true → plain (last_of c s) ≡ true
last_plain c [] h = h
last_plain c (d ∷ s) h = last_plain d s (and_parts (is_plain c) (plain (d ∷ s)) h).1

piece_text : (kind : PieceKind) (k : Token) → is_plain_token k ≡ true → plain (text_of_piece kind k) ≡ true
piece_text kind k h = grind (arith, last_plain)

piece_plain : (before : List Token) (k : Token) → is_plain_token k ≡ true → plain_pieces (pieces_at before k) ≡ true
piece_plain before k h = by (kind_of k)
  where
    by : (o : Option PieceKind) → plain_pieces (piece_of before k o) ≡ true
    by None = either plain_pieces (is_space k.kind && has_word before && not (follows_blank before)) (record { kind = piece.Blank; styles = open_styles before; text = [] } ∷ []) [] refl refl
    by (Some kind) = and_from (plain (text_of_piece kind k)) true (piece_text kind k h) refl

pieces_plain : (before ks : List Token) → plain_tokens ks ≡ true → plain_pieces (along pieces_at before ks) ≡ true
pieces_plain before [] h = refl
pieces_plain before (k ∷ ks) h =
    let g = and_parts (is_plain_token k) (plain_tokens ks) h in
    append is_plain_piece (pieces_at before k) (along pieces_at (k ∷ before) ks) (piece_plain before k g.0) (pieces_plain (k ∷ before) ks g.1)

but_blank_plain : (ps : List PieceFacts) → plain_pieces ps ≡ true → plain_pieces (but_blank ps) ≡ true
but_blank_plain [] h = refl
but_blank_plain (p ∷ []) h = either plain_pieces (is_blank_piece p.kind) [] (p ∷ []) refl h
but_blank_plain (p ∷ q ∷ ps) h =
    let g = and_parts (is_plain_piece p) (plain_pieces (q ∷ ps)) h in
    and_from (is_plain_piece p) (plain_pieces (but_blank (q ∷ ps))) g.0 (but_blank_plain (q ∷ ps) g.1)

-- ---- the translation

but_last_plain : (c : ℕ) (s : List ℕ) → plain (c ∷ s) ≡ true → plain (but_last c s) ≡ true
but_last_plain c [] h = refl
but_last_plain c (d ∷ s) h =
    let g = and_parts (is_plain c) (plain (d ∷ s)) h in
    and_from (is_plain c) (plain (but_last d s)) g.0 (but_last_plain d s g.1)

but_end_plain : (t : List ℕ) → plain t ≡ true → plain (but_end t) ≡ true
but_end_plain t h = grind (arith, but_last_plain)

translation_plain : (ks : List Token) → plain_tokens ks ≡ true → plain_option (translation_text ks) ≡ true
translation_plain [] h = refl
translation_plain (k ∷ before) h =
    let g = and_parts (is_plain_token k) (plain_tokens before) h in
    either plain_option (is_whole_translation k.kind && not (has_translation before)) (Some (but_end k.more)) (translation_text before)
    (but_end_plain k.more (and_parts (is_plain k.first) (plain k.more) g.0).1) (translation_plain before g.1)

-- ---- what is printed

closing_plain : (styles : List Style) → plain_tokens (map closing_tag styles) ≡ true
closing_plain [] = refl
closing_plain (B ∷ styles) = closing_plain styles
closing_plain (_ ∷ styles) = closing_plain styles

opening_plain : (styles : List Style) → plain_tokens (map opening_tag styles) ≡ true
opening_plain [] = refl
opening_plain (B ∷ styles) = opening_plain styles
opening_plain (_ ∷ styles) = opening_plain styles

braces_plain : (centre : Option Span) (i : ℕ) → plain_tokens (brace_tokens centre i) ≡ true
braces_plain centre i = grind arith

between_plain : (old new : List Style) (middle : List Token) → plain_tokens middle ≡ true → plain_tokens (tokens_between old new middle) ≡ true
between_plain old new middle h = grind (arith, append, closing_plain, opening_plain)

letter_plain : (t : List ℕ) → plain t ≡ true → is_plain_token (letter t) ≡ true
letter_plain [] h = refl
letter_plain (c ∷ s) h =
    let here = and_from (is_plain c) true (and_parts (is_plain c) (plain s) h).0 refl in
    either is_plain_token (is_special c) (record { kind = kind.Letter; first = 36; more = c ∷ [] }) (record { kind = kind.Letter; first = c; more = [] }) here here

spelled_plain : (k : TokenKind) (t : List ℕ) → plain t ≡ true → is_plain_token (spelled_as k t) ≡ true
spelled_plain k t h = grind arith

printed_plain : (kind : PieceKind) (t : List ℕ) → plain t ≡ true → is_plain_token (printed_piece kind t) ≡ true
printed_plain kind t h = grind (arith, letter_plain, spelled_plain)

print_plain : (centre : Option Span) (i : ℕ) (old : List Style) (ps : List PieceFacts) → plain_pieces ps ≡ true → plain_tokens (print_from centre i old ps) ≡ true
print_plain centre i old [] h = between_plain old [] (brace_tokens centre i) (braces_plain centre i)
print_plain centre i old (p ∷ ps) h =
    let g = and_parts (is_plain_piece p) (plain_pieces ps) h in
    append is_plain_token (tokens_between old p.styles (brace_tokens centre i)) (printed_piece p.kind p.text ∷ print_from centre (i + 1) p.styles ps) (between_plain old p.styles (brace_tokens centre i) (braces_plain centre i))
    (and_from (is_plain_token (printed_piece p.kind p.text)) (plain_tokens (print_from centre (i + 1) p.styles ps)) (printed_plain p.kind p.text g.0) (print_plain centre (i + 1) p.styles ps g.1))

bracketed_plain : (o : Option (List ℕ)) → plain_option o ≡ true → plain_tokens (translation_tokens o) ≡ true
bracketed_plain o h = grind (arith, append)

break_plain : (b : Bool) → plain_tokens (word_break b) ≡ true
break_plain b = grind arith

pub view_plain : (t : List ℕ) → plain t ≡ true → plain (print (view_facts t)) ≡ true
view_plain t h =
    let v = view_facts t in
    let ks = plain_cut t h in
    let pieces : plain_tokens (print_from v.centre 0 [] v.pieces) ≡ true = print_plain v.centre 0 [] v.pieces (but_blank_plain (along pieces_at [] (tokens t)) (pieces_plain [] (tokens t) ks)) in
    let translated : plain_tokens (translation_tokens v.translation) ≡ true = bracketed_plain v.translation (translation_plain (reverse (tokens t)) (reversed is_plain_token (tokens t) ks)) in
    text_of_plain (word_break v.word_start ++ print_from v.centre 0 [] v.pieces ++ translation_tokens v.translation)
    (append is_plain_token (word_break v.word_start ++ print_from v.centre 0 [] v.pieces) (translation_tokens v.translation)
    (append is_plain_token (word_break v.word_start) (print_from v.centre 0 [] v.pieces) (break_plain v.word_start) pieces) translated)
