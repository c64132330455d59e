-- Printed pieces are read as they were.
use Rattle.std.proofs.Common.{arith, ◌≡◌, ℕ, ◌+◌, List, [], ◌∷◌, ◌++◌, Bool, true, false, ◌||◌, refl, ap, ◌∙◌, map, filter, Option, Some, None}
use Rattle.gabc_places.specs.declared.place.Span.{Span}
use Rattle.gabc_text.specs.declared.styles.Style.{Style}
use Rattle.gabc_text.specs.declared.view.PieceKind.{PieceKind}
use Rattle.gabc_text.specs.declared.view.PieceKind.TheVariants as piece
use Rattle.gabc_text.specs.declared.token.TokenKind.{TokenKind}
use Rattle.gabc_text.specs.declared.token.TokenKind.TheVariants as kind
use Rattle.gabc_text.specs.Token.{Token}
use Rattle.gabc_text.specs.TagNames.{all_styles}
use Rattle.gabc_text.specs.View.{along, tag_piece, is_open, open_styles, kind_of, is_word_kind, has_word, follows_blank, starts_word, pieces_at, PieceFacts, is_space, is_blank_piece, is_translation}
use Rattle.gabc_text.specs.Printed.{opening_tag, closing_tag, tokens_between, brace_tokens, printed_piece, print_from}
use Rattle.gabc_text.proofs.printing.TokensAreReadAgain.{opening_stable, closing_stable}
use Rattle.gabc_text.proofs.printing.PrintedTagsOpenStyles.{along_append, tag_opens, tag_closes, member, AllOnce, Quiet, across, styles_again, once}
use Rattle.gabc_text.proofs.machine.TokensOneAfterAnother.{onto}
use Rattle.gabc_text.specs.machine.PrintedPieces.{AllGood, Good, Says, Stable}

-- ---- tokens that are no pieces

pub record Silent (k : Token) : Type 0 where
  pub none : kind_of k ≡ None
  pub no_space : is_space k.kind ≡ false
  pub no_translation : is_translation k.kind ≡ false
  pub stable : Stable k

abbrev pub AllSilent : List Token → Type 0
AllSilent [] = Unit {0}
AllSilent (k ∷ ks) = Silent k × AllSilent ks

pub silent_append : (ks ls : List Token) → AllSilent ks → AllSilent ls → AllSilent (ks ++ ls)
silent_append [] ls h g = g
silent_append (k ∷ ks) ls h g = (h.0, silent_append ks ls h.1 g)

pub opening_silent : (ss : List Style) → AllSilent (map opening_tag ss)
opening_silent [] = tt
opening_silent (s ∷ ss) = (record { none = ap tag_piece (tag_opens s); no_space = refl; no_translation = refl; stable = opening_stable s }, opening_silent ss)

pub closing_silent : (ss : List Style) → AllSilent (map closing_tag ss)
closing_silent [] = tt
closing_silent (s ∷ ss) = (record { none = ap tag_piece (tag_closes s); no_space = refl; no_translation = refl; stable = closing_stable s }, closing_silent ss)

-- braces between pieces
pub record Braces (ks : List Token) : Type 0 where
  pub silent : AllSilent ks
  pub quiet : Quiet ks

pub are_braces : (centre : Option Span) (i : ℕ) → Braces (brace_tokens centre i)
are_braces centre i = grind arith

pub between_silent : (old new : List Style) (middle : List Token) → AllSilent middle → AllSilent (tokens_between old new middle)
between_silent old new middle h = grind (arith, silent_append, closing_silent, opening_silent)

-- they give no pieces, and change nothing of what the pieces look at
pub no_pieces : (before : List Token) (k : Token) → Silent k → pieces_at before k ≡ []
no_pieces before k h = rw (h.none, h.no_space) refl

pub silent_along : (before ks : List Token) → AllSilent ks → along pieces_at before ks ≡ []
silent_along before [] h = refl
silent_along before (k ∷ ks) h = rw (no_pieces before k h.0) (silent_along (k ∷ before) ks h.1)

pub silent_word : (before ks : List Token) → AllSilent ks → has_word (onto ks before) ≡ has_word before
silent_word before [] h = refl
silent_word before (k ∷ ks) h = silent_word (k ∷ before) ks h.1 ∙ rw h.0.none refl

pub silent_blank : (before ks : List Token) → AllSilent ks → follows_blank (onto ks before) ≡ follows_blank before
silent_blank before [] h = refl
silent_blank before (k ∷ ks) h = silent_blank (k ∷ before) ks h.1 ∙ rw (h.0.none, h.0.no_space) refl

pub silent_starts : (before ks : List Token) → AllSilent ks → starts_word (onto ks before) ≡ starts_word before
silent_starts before [] h = refl
silent_starts before (k ∷ ks) h = silent_starts (k ∷ before) ks h.1 ∙ rw h.0.no_space refl

-- ---- pieces that are read again

-- what a printed piece does after such tokens
pub record Does (p : PieceFacts) (w b : Bool) (before : List Token) : Type 0 where
  pub pieces_are : pieces_at before (printed_piece p.kind p.text) ≡ record { kind = p.kind; styles = open_styles before; text = p.text } ∷ []
  pub word : has_word (printed_piece p.kind p.text ∷ before) ≡ (is_word_kind (Some p.kind) || w)
  pub blank : follows_blank (printed_piece p.kind p.text ∷ before) ≡ is_blank_piece p.kind
  pub opens : (s : Style) → is_open s (printed_piece p.kind p.text ∷ before) ≡ is_open s before
  pub starts : starts_word (printed_piece p.kind p.text ∷ before) ≡ starts_word before

pub does : (p : PieceFacts) (w b : Bool) (before : List Token) → Good p w b → has_word before ≡ w → (w ≡ true → follows_blank before ≡ b) → Does p w b before
does p w b before h e f = by p.kind h.reads_so
  where
    by : (k : PieceKind) → Says k p.text w b → Does (record { kind = k; styles = p.styles; text = p.text }) w b before
    by k g = grind arith

-- a printed piece is a blank, or a token of its kind
pub printed_by : (P : Token → Type 0) (p : PieceFacts) (w b : Bool) → (w ≡ true → b ≡ false → P (printed_piece piece.Blank [])) → ((k : Token) → kind_of k ≡ Some p.kind → P k) → Good p w b
    → P (printed_piece p.kind p.text)
printed_by P p w b blank other g = grind arith

pub printed_kind : (P : TokenKind → Type 0) → P kind.Blank → P kind.Letter → P kind.Raw → P kind.Tag → (p : PieceFacts) (w b : Bool) → Good p w b → P (printed_piece p.kind p.text).kind
printed_kind P blank letter raw tag p w b g = grind arith

-- the pieces are read again
pub pieces_again : (centre : Option Span) (i : ℕ) (old : List Style) (ps : List PieceFacts) (w b : Bool) (before : List Token)
    → AllOnce old → ((s : Style) → is_open s before ≡ member s old) → has_word before ≡ w → (w ≡ true → follows_blank before ≡ b) → AllGood w b ps
    → along pieces_at before (print_from centre i old ps) ≡ ps
pieces_again centre i old [] w b before o h e f g = silent_along before (tokens_between old [] (brace_tokens centre i)) (between_silent old [] (brace_tokens centre i) (are_braces centre i).silent)
pieces_again centre i old (p ∷ ps) w b before o h e f g =
    let gap = tokens_between old p.styles (brace_tokens centre i) in
    let silent : AllSilent gap = between_silent old p.styles (brace_tokens centre i) (are_braces centre i).silent in
    let set : p.styles ≡ filter (g.0).test all_styles = (g.0).styles_are in
    let now = onto gap before in
    let d = does p w b now g.0 (silent_word before gap silent ∙ e) (λ x. silent_blank before gap silent ∙ f x) in
    let styles : open_styles now ≡ p.styles =
    rw set (styles_again old (g.0).test (brace_tokens centre i) before o (are_braces centre i).quiet h) in
    let opens : (s : Style) → is_open s (printed_piece p.kind p.text ∷ now) ≡ member s p.styles =
    λ s. d.opens s ∙ across s old p.styles (brace_tokens centre i) before o (are_braces centre i).quiet (h s) in
    let none : AllOnce p.styles = rw set (once (g.0).test) in
    along_append pieces_at before gap (printed_piece p.kind p.text ∷ print_from centre (i + 1) p.styles ps)
    ∙ ap (λ (x : List PieceFacts). x ++ along pieces_at now (printed_piece p.kind p.text ∷ print_from centre (i + 1) p.styles ps)) (silent_along before gap silent)
    ∙ ap (λ (x : List PieceFacts). x ++ along pieces_at (printed_piece p.kind p.text ∷ now) (print_from centre (i + 1) p.styles ps)) d.pieces_are
    ∙ ap (λ (x : List Style). record { kind = p.kind; styles = x; text = p.text } ∷ along pieces_at (printed_piece p.kind p.text ∷ now) (print_from centre (i + 1) p.styles ps)) styles
    ∙ ap (λ (x : List PieceFacts). p ∷ x)
    (pieces_again centre (i + 1) p.styles ps (is_word_kind (Some p.kind) || w) (is_blank_piece p.kind) (printed_piece p.kind p.text ∷ now) none opens d.word (λ x. d.blank) g.1)
