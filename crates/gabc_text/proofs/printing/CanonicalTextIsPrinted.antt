-- The canonical text of a text's view is the printed form of what the text says.
use Rattle.std.proofs.Common.{◌≡◌, ℕ, suc, ◌+◌, ◌||◌, List, [], ◌∷◌, ◌++◌, Bool, true, false, cond, refl, sym, ap, ◌∙◌, append_assoc, map, reverse, length, Option, Some, codes, nat_lt, arith}
use Rattle.std.specs.List.{flat_map}
use Rattle.std.proofs.lemmas.Str.{encodes-append}
use Rattle.std.proofs.lemmas.Bool.{lt-ltb}
use lib.Utf8.{encode, encodes}
use Rattle.gabc_places.specs.declared.place.Span.{Span}
use Rattle.gabc_text.specs.declared.styles.Style.{Style}
use Rattle.gabc_text.specs.declared.view.PieceKind.{PieceKind}
use Rattle.gabc_text.specs.declared.view.PieceKind.TheVariants as piece
use Rattle.gabc_text.specs.declared.view.Piece.{Piece}
use Rattle.gabc_text.specs.declared.token.TokenKind.{TokenKind}
use Rattle.gabc_text.specs.declared.token.TokenKind.TheVariants as kind
use Rattle.gabc_text.specs.Token.{Token, spelling, tokens, is_special}
use Rattle.gabc_text.specs.View.{PieceFacts, kept, text_of_piece, is_word_kind, is_blank_piece, centre_by, begin_of, end_of}
use Rattle.gabc_text.specs.TextRead.{view_in, pieces_in}
use Rattle.gabc_text.specs.Canonical.{style_opening, style_closing, braces, boundary, span_bytes, with_dollar, piece_text, piece_text_by, text_from, canonical_text}
use Rattle.gabc_text.specs.ViewFacts.{piece_facts_in, view_facts, StandsForView, IsPieceOf, ArePiecesOf, kept_of_piece}
use Rattle.gabc_text.specs.Printed.{opening_tag, closing_tag, brace_tokens, tokens_between, letter, spelled_as, printed_piece, print_from, text_tokens, text_of_tokens}
use Rattle.gabc_text.proofs.tokens.CasesOfCharacters.{special_is_low}
use Rattle.gabc_text.proofs.printing.PiecesPrintWell.{pieces_good}
use Rattle.gabc_text.proofs.spans.ViewSpansGiveItsContent.{pieces_facts}
use Rattle.gabc_text.proofs.spans.CentreLiesAmongPieces.{spanned_is}
use Rattle.gabc_text.proofs.printing.PrintedTextIsKept.{written_append}
use Rattle.gabc_text.specs.machine.PrintedPieces.{AllGood, Good, Says}

pub bytes_append : (ks ls : List Token) → encodes (text_of_tokens (ks ++ ls)) ≡ encodes (text_of_tokens ks) ++ encodes (text_of_tokens ls)
bytes_append ks ls = ap encodes (written_append ks ls) ∙ encodes-append (text_of_tokens ks) (text_of_tokens ls)

-- ---- a boundary

opening_bytes : (s : Style) → style_opening s ≡ encodes (spelling (opening_tag s))
unfolding encode
opening_bytes s = grind arith

closing_bytes : (s : Style) → style_closing s ≡ encodes (spelling (closing_tag s))
unfolding encode
closing_bytes s = grind arith

tags_bytes : (f : Style → List ℕ) (g : Style → Token) → ((s : Style) → f s ≡ encodes (spelling (g s))) → (ss : List Style) → flat_map f ss ≡ encodes (text_of_tokens (map g ss))
tags_bytes f g h [] = refl
tags_bytes f g h (s ∷ ss) =
    ap (λ (x : List ℕ). x ++ flat_map f ss) (h s) ∙ ap (λ (x : List ℕ). encodes (spelling (g s)) ++ x) (tags_bytes f g h ss)
    ∙ sym (encodes-append (spelling (g s)) (text_of_tokens (map g ss)))

brace_bytes : (centre : Option Span) (i : ℕ) → braces centre i ≡ encodes (text_of_tokens (brace_tokens centre i))
unfolding encode
brace_bytes centre i = grind arith

boundary_bytes : (old new : List Style) (m : List ℕ) (ms : List Token) → m ≡ encodes (text_of_tokens ms) → boundary old new m ≡ encodes (text_of_tokens (tokens_between old new ms))
boundary_bytes old new m ms e = grind (arith, flat_map, tags_bytes, closing_bytes, opening_bytes, append_assoc, bytes_append)

-- ---- a piece

escaped_by : (c : ℕ) (x y z s : Bool) (a1 a2 b1 b2 b3 d1 d2 d3 d4 : ℕ) → is_special c ≡ s → (s ≡ true → x ≡ true)
    → with_dollar (cond x (c ∷ []) (cond y (a1 ∷ a2 ∷ []) (cond z (b1 ∷ b2 ∷ b3 ∷ []) (d1 ∷ d2 ∷ d3 ∷ d4 ∷ []))) ++ [])
    ≡ cond s (36 ∷ []) [] ++ (cond x (c ∷ []) (cond y (a1 ∷ a2 ∷ []) (cond z (b1 ∷ b2 ∷ b3 ∷ []) (d1 ∷ d2 ∷ d3 ∷ d4 ∷ []))) ++ [])
escaped_by c x y z s a1 a2 b1 b2 b3 d1 d2 d3 d4 e f = grind arith

letter_bytes : (c : ℕ) (s : Bool) → cond s (36 ∷ []) [] ++ (encode c ++ []) ≡ encodes (spelling (cond s (record { kind = kind.Letter; first = 36; more = c ∷ [] }) (record { kind = kind.Letter; first = c; more = [] })))
unfolding encode
letter_bytes c s = grind arith

escaped_bytes : (c : ℕ) → with_dollar (encodes (c ∷ [])) ≡ encodes (spelling (letter (c ∷ [])))
unfolding encode
escaped_bytes c = escaped_by c (nat_lt c 128) (nat_lt c 2048) (nat_lt c 65536) (is_special c) _ _ _ _ _ _ _ _ _ refl (λ s. lt-ltb c 128 (special_is_low c s)) ∙ letter_bytes c (is_special c)

blank_bytes : codes " " ≡ encodes (32 ∷ [])
unfolding encode
blank_bytes = refl

piece_bytes : (K : List ℕ) (p : Piece) (q : PieceFacts) (w b : Bool) → IsPieceOf K p q → Good q w b → piece_text (encodes K) p ≡ encodes (spelling (printed_piece q.kind q.text))
piece_bytes K p q w b h g =
    ap (λ (x : PieceKind). piece_text_by x (span_bytes (encodes K) p.span)) h.kind_is
    ∙ ap (piece_text_by q.kind) (spanned_is K p.span (kept_of_piece q) h.stands)
    ∙ by q.kind q.text g.reads_so
  where
    char : (t : List ℕ) → text_of_piece piece.Char (letter t) ≡ t → with_dollar (encodes t) ≡ encodes (spelling (letter t))
    char [] e = absurd (cc)
    char (c ∷ s) e = by (is_special c) e
      where
        only : s ≡ [] → with_dollar (encodes (c ∷ s)) ≡ encodes (spelling (letter (c ∷ s)))
        only f = rw f (escaped_bytes c)

        by : (x : Bool) → text_of_piece piece.Char (cond x (record { kind = kind.Letter; first = 36; more = c ∷ [] }) (record { kind = kind.Letter; first = c; more = [] })) ≡ c ∷ s → with_dollar (encodes (c ∷ s)) ≡ encodes (spelling (letter (c ∷ s)))
        by x f = grind (arith, only)

    spelled : (k : TokenKind) (t : List ℕ) → spelling (spelled_as k t) ≡ t → encodes t ≡ encodes (spelling (spelled_as k t))
    spelled k t e = ap encodes (sym e)

    by : (k : PieceKind) (t : List ℕ) → Says k t w b → piece_text_by k (encodes (cond (is_blank_piece k) (codes " ") t)) ≡ encodes (spelling (printed_piece k t))
    by k t s = grind (arith, char, blank_bytes, spelled)

-- ---- the text

from_bytes : (K : List ℕ) (centre : Option Span) (i : ℕ) (old : List Style) (ps : List Piece) (qs : List PieceFacts) (w b : Bool) → ArePiecesOf K ps qs → AllGood w b qs
    → text_from centre (encodes K) i old ps ≡ encodes (text_of_tokens (print_from centre i old qs))
from_bytes K centre i old [] [] w b h g = boundary_bytes old [] (braces centre i) (brace_tokens centre i) (brace_bytes centre i)
from_bytes K centre i old [] (q ∷ qs) w b h g = absurd h
from_bytes K centre i old (p ∷ ps) [] w b h g = absurd h
from_bytes K centre i old (p ∷ ps) (q ∷ qs) w b h g =
    let more = print_from centre (i + 1) q.styles qs in
    ap (λ (x : List Style). boundary old x (braces centre i) ++ (piece_text (encodes K) p ++ text_from centre (encodes K) (i + 1) x ps)) h.0.styles_are
    ∙ ap (λ (x : List ℕ). x ++ (piece_text (encodes K) p ++ text_from centre (encodes K) (i + 1) q.styles ps)) (boundary_bytes old q.styles (braces centre i) (brace_tokens centre i) (brace_bytes centre i))
    ∙ ap (λ (x : List ℕ). encodes (text_of_tokens (tokens_between old q.styles (brace_tokens centre i))) ++ (x ++ text_from centre (encodes K) (i + 1) q.styles ps)) (piece_bytes K p q w b h.0 g.0)
    ∙ ap (λ (x : List ℕ). encodes (text_of_tokens (tokens_between old q.styles (brace_tokens centre i))) ++ (encodes (spelling (printed_piece q.kind q.text)) ++ x))
    (from_bytes K centre (i + 1) q.styles ps qs (is_word_kind (Some q.kind) || w) (is_blank_piece q.kind) h.1 g.1)
    ∙ ap (λ (x : List ℕ). encodes (text_of_tokens (tokens_between old q.styles (brace_tokens centre i))) ++ x) (sym (encodes-append (spelling (printed_piece q.kind q.text)) (text_of_tokens (print_from centre (i + 1) q.styles qs))))
    ∙ sym (bytes_append (tokens_between old q.styles (brace_tokens centre i)) (printed_piece q.kind q.text ∷ print_from centre (i + 1) q.styles qs))

same_length : (K : List ℕ) (ps : List Piece) (qs : List PieceFacts) → ArePiecesOf K ps qs → length ps ≡ length qs
same_length K [] [] h = refl
same_length K [] (q ∷ qs) h = absurd h
same_length K (p ∷ ps) [] h = absurd h
same_length K (p ∷ ps) (q ∷ qs) h = ap (λ (n : ℕ). suc n) (same_length K ps qs h.1)

pub canonical_is : (K t : List ℕ) → StandsForView K (view_in t) t → canonical_text (view_in t) (encodes K) ≡ encodes (text_of_tokens (text_tokens (view_facts t)))
canonical_is K t h =
    ap (λ (n : ℕ). text_from (centre_by n (begin_of (reverse (tokens t))) (end_of (reverse (tokens t)))) (encodes K) 0 [] (pieces_in t)) (same_length K (pieces_in t) (piece_facts_in t) h.pieces)
    ∙ from_bytes K (centre_by (length (piece_facts_in t)) (begin_of (reverse (tokens t))) (end_of (reverse (tokens t)))) 0 [] (pieces_in t) (piece_facts_in t) false false h.pieces (pieces_good t)

pub centre_same : (t : List ℕ) → (view_in t).centre ≡ (view_facts t).centre
centre_same t = ap (λ (n : ℕ). centre_by n (begin_of (reverse (tokens t))) (end_of (reverse (tokens t)))) (same_length (kept t) (pieces_in t) (piece_facts_in t) (pieces_facts t))
