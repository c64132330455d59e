-- Pieces one after another are printed one after another, if no style stays open between them.
use Rattle.std.proofs.lemmas.Bool.{ne_eqb}
use Rattle.std.proofs.lemmas.List.{map-append}
use Rattle.std.proofs.lemmas.List.Elements.{filter-append}
use Rattle.std.proofs.Common.{◌≡◌, ℕ, ◌+◌, ◌<◌, List, [], ◌∷◌, ◌++◌, Bool, true, false, ◌||◌, refl, sym, ap, ap₂, ◌∙◌, map, reverse, filter, append-nil, append_assoc, Option, Some, None, length, length-append, eq-eqb, arith}
use Rattle.std.proofs.Math.Bool.{or-true}
use Rattle.gabc_places.specs.declared.place.Span.{Span}
use Rattle.gabc_text.specs.declared.styles.Style.{Style}
use Rattle.gabc_text.specs.declared.view.PieceKind.TheVariants as piece
use Rattle.gabc_text.specs.Token.{Token, spelling}
use Rattle.gabc_text.specs.TagNames.{all_styles}
use Rattle.gabc_text.specs.View.{PieceFacts, is_word_kind, is_blank_piece}
use Rattle.gabc_text.specs.ViewFacts.{but_blank, tags_among, LiesAmong}
use Rattle.gabc_text.specs.Canonical.{after_common}
use Rattle.gabc_text.specs.Printed.{opening_tag, closing_tag, begin_brace, end_brace, brace_tokens, tokens_between, print_from, text_of_tokens}
use Rattle.gabc_text.specs.machine.PrintedPieces.{AllGood}
use Rattle.gabc_text.specs.machine.RegularBytes.{AllKnown, word_after, blank_after, first_styles, last_styles, AreApart, printed_as, printed_text}
use Rattle.gabc_text.proofs.printing.PrintedTextIsKept.{written_append}
use Rattle.gabc_text.proofs.printing.ChangedStylesCloseFromTheFirst.{none_after}

-- ---- lists of pieces

pub printed_join : (ps qs : List PieceFacts) → printed_text (ps ++ qs) ≡ printed_text ps ++ printed_text qs
printed_join [] qs = refl
printed_join (p ∷ ps) qs = ap (λ (t : List ℕ). spelling (printed_as p) ++ t) (printed_join ps qs) ∙ sym (append_assoc (spelling (printed_as p)) (printed_text ps) (printed_text qs))

pub good_join : (w b : Bool) (ps qs : List PieceFacts) → AllGood w b ps → AllGood (word_after w ps) (blank_after b ps) qs → AllGood w b (ps ++ qs)
good_join w b [] qs h g = g
good_join w b (p ∷ ps) qs h g = (h.0, good_join (is_word_kind (Some p.kind) || w) (is_blank_piece p.kind) ps qs h.1 g)

pub known_join : (ps qs : List PieceFacts) → AllKnown ps → AllKnown qs → AllKnown (ps ++ qs)
known_join [] qs h g = g
known_join (p ∷ ps) qs h g = (h.0, known_join ps qs h.1 g)

pub tags_join : (ps qs : List PieceFacts) → tags_among (ps ++ qs) ≡ tags_among ps ++ tags_among qs
tags_join ps qs = grind (arith, filter-append, map-append)

pub word_join : (w : Bool) (ps qs : List PieceFacts) → word_after w (ps ++ qs) ≡ word_after (word_after w ps) qs
word_join w [] qs = refl
word_join w (p ∷ ps) qs = word_join (is_word_kind (Some p.kind) || w) ps qs

pub word_stays : (ps : List PieceFacts) → word_after true ps ≡ true
word_stays [] = refl
word_stays (p ∷ ps) = rw (or-true (is_word_kind (Some p.kind))) (word_stays ps)

pub blank_join : (b : Bool) (ps qs : List PieceFacts) → blank_after b (ps ++ qs) ≡ blank_after (blank_after b ps) qs
blank_join b [] qs = refl
blank_join b (p ∷ ps) qs = blank_join (is_blank_piece p.kind) ps qs

-- no blank is taken away where none is the last
pub none_taken : (ps : List PieceFacts) → blank_after false ps ≡ false → but_blank ps ≡ ps
none_taken [] e = refl
none_taken (p ∷ []) e = rw e refl
none_taken (p ∷ q ∷ ps) e = ap (λ (rs : List PieceFacts). p ∷ rs) (none_taken (q ∷ ps) e)

-- ---- pieces in one style

abbrev pub in_styles : List Style → PieceFacts → PieceFacts
in_styles ss p = record { kind = p.kind; styles = ss; text = p.text }

old_alone : (old : List Style) → after_common old [] ≡ (old, [])
old_alone [] = refl
old_alone (s ∷ old) = refl

abbrev closings : List Style → List Token
closings ss = map closing_tag (reverse ss)

-- after the last piece
at_end : (old : List Style) (middle : List Token) → tokens_between old [] middle ≡ closings old ++ middle
at_end old middle = rw (old_alone old) (append-nil (closings old ++ middle))

run_after : (i : ℕ) (ss : List Style) (ps : List PieceFacts) → print_from None i ss (map (in_styles ss) ps) ≡ map printed_as ps ++ closings ss
run_after i ss [] = at_end ss [] ∙ append-nil (closings ss)
run_after i ss (p ∷ ps) = rw (none_after ss) (ap (λ (ks : List Token). printed_as p ∷ ks) (run_after (i + 1) ss ps))

pub good_in : (ss : List Style) (test : Style → Bool) (w b : Bool) (ps : List PieceFacts) → ss ≡ filter test all_styles → AllGood w b ps → AllGood w b (map (in_styles ss) ps)
good_in ss test w b [] e h = tt
good_in ss test w b (p ∷ ps) e h = grind (arith, good_in ss test (is_word_kind (Some p.kind) || w) (is_blank_piece p.kind) ps e h.1)

pub known_in : (ss : List Style) (ps : List PieceFacts) → AllKnown ps → AllKnown (map (in_styles ss) ps)
known_in ss [] h = tt
known_in ss (p ∷ ps) h = (h.0, known_in ss ps h.1)

pub tags_in : (ss : List Style) (ps : List PieceFacts) → tags_among (map (in_styles ss) ps) ≡ tags_among ps
tags_in ss [] = refl
tags_in ss (p ∷ ps) = grind (arith, tags_in ss ps)

pub blank_in : (ss : List Style) (b : Bool) (ps : List PieceFacts) → blank_after b (map (in_styles ss) ps) ≡ blank_after b ps
blank_in ss b [] = refl
blank_in ss b (p ∷ ps) = blank_in ss (is_blank_piece p.kind) ps

pub word_in : (ss : List Style) (w : Bool) (ps : List PieceFacts) → word_after w (map (in_styles ss) ps) ≡ word_after w ps
word_in ss w [] = refl
word_in ss w (p ∷ ps) = word_in ss (is_word_kind (Some p.kind) || w) ps

-- pieces in no style
pub plain_printed : (ps : List PieceFacts) → text_of_tokens (print_from None 0 [] (map (in_styles []) ps)) ≡ printed_text ps
plain_printed ps = ap text_of_tokens (run_after 0 [] ps ∙ append-nil (map printed_as ps))

-- ---- pieces after others

-- no brace stands from the position i on
abbrev pub IsPast : Option Span → ℕ → Type 0
IsPast None i = Unit {0}
IsPast (Some c) i = (c.from < i) × (c.to < i)

no_braces : (centre : Option Span) (i : ℕ) → IsPast centre i → brace_tokens centre i ≡ []
no_braces centre i h = grind arith

past_more : (centre : Option Span) (i : ℕ) → IsPast centre i → IsPast centre (i + 1)
past_more centre i h = grind arith

pub past_braces : (centre : Option Span) (i k : ℕ) (old : List Style) (ps : List PieceFacts) → IsPast centre i → print_from centre i old ps ≡ print_from None k old ps
past_braces centre i k old [] h = ap (λ (ks : List Token). tokens_between old [] ks) (no_braces centre i h)
past_braces centre i k old (p ∷ ps) h = grind (arith, past_braces centre (i + 1) (k + 1) p.styles ps (past_more centre i h), no_braces, past_more)

pub after : (centre : Option Span) (i j : ℕ) (old : List Style) (ps : List PieceFacts) (q : PieceFacts) (qs : List PieceFacts) → i + length ps ≡ j → AreApart (last_styles old ps) q.styles
    → print_from centre i old (ps ++ q ∷ qs) ≡ print_from centre i old ps ++ (map opening_tag q.styles ++ printed_as q ∷ print_from centre (j + 1) q.styles qs)
after centre i j old [] q qs e h = grind (arith, append_assoc, at_end)
after centre i j old (p ∷ ps) q qs e h = simp (append_assoc, after centre (i + 1) j p.styles ps q qs (omega (arith, e)) h)

past_all : (centre : Option Span) (n : ℕ) → LiesAmong n centre → IsPast centre (n + 1)
past_all centre n h = grind arith

-- what is printed of pieces in a row
pub text_join : (centre : Option Span) (ps qs : List PieceFacts) → LiesAmong (length ps) centre → blank_after true qs ≡ false → AreApart (last_styles [] ps) (first_styles qs)
    → text_of_tokens (print_from centre 0 [] (ps ++ qs)) ≡ text_of_tokens (print_from centre 0 [] ps) ++ text_of_tokens (print_from None 0 [] qs)
text_join centre ps [] l e h = absurd (cc)
text_join centre ps (q ∷ qs) l e h =
    let first = map opening_tag q.styles in
    ap text_of_tokens (after centre 0 (length ps) [] ps q qs (omega arith) h)
    ∙ written_append (print_from centre 0 [] ps) (first ++ printed_as q ∷ print_from centre (length ps + 1) q.styles qs)
    ∙ ap (λ (ks : List Token). text_of_tokens (print_from centre 0 [] ps) ++ text_of_tokens (first ++ printed_as q ∷ ks)) (past_braces centre (length ps + 1) (0 + 1) q.styles qs (past_all centre (length ps) l))

pub among_more : (centre : Option Span) (ps qs : List PieceFacts) → LiesAmong (length ps) centre → LiesAmong (length (ps ++ qs)) centre
among_more centre ps qs h = grind (arith, length-append)

pub last_join : (old : List Style) (ps qs : List PieceFacts) → blank_after true qs ≡ false → last_styles old (ps ++ qs) ≡ last_styles [] qs
last_join old ps [] e = absurd (cc)
last_join old [] (q ∷ qs) e = refl
last_join old (p ∷ ps) (q ∷ qs) e = last_join p.styles ps (q ∷ qs) e

-- a blank in front changes nothing of what is printed after it
pub after_blank : (ps : List PieceFacts) → text_of_tokens (print_from None 0 [] (record { kind = piece.Blank; styles = []; text = [] } ∷ ps)) ≡ 32 ∷ text_of_tokens (print_from None 0 [] ps)
after_blank ps = ap (λ (ks : List Token). 32 ∷ text_of_tokens ks) (past_braces None (0 + 1) 0 [] ps tt)

pub some_blank : (b : Bool) (ps : List PieceFacts) → blank_after true ps ≡ false → blank_after b ps ≡ false
some_blank b [] e = absurd (cc)
some_blank b (p ∷ ps) e = e

pub apart_none : (old : List Style) → AreApart old []
apart_none old = old_alone old

-- ---- a run in a style

pub styled_printed : (s : Style) (ps : List PieceFacts) → blank_after true ps ≡ false
    → text_of_tokens (print_from None 0 [] (map (in_styles (s ∷ [])) ps)) ≡ spelling (opening_tag s) ++ (printed_text ps ++ spelling (closing_tag s))
styled_printed s [] e = absurd (cc)
styled_printed s (p ∷ ps) e = grind (arith, run_after, written_append, append-nil, append_assoc)

pub first_in : (ss : List Style) (ps : List PieceFacts) → blank_after true ps ≡ false → first_styles (map (in_styles ss) ps) ≡ ss
first_in ss [] e = absurd (cc)
first_in ss (p ∷ ps) e = refl

pub last_in : (ss : List Style) (ps : List PieceFacts) → blank_after true ps ≡ false → last_styles [] (map (in_styles ss) ps) ≡ ss
last_in ss [] e = absurd (cc)
last_in ss (p ∷ ps) e = by ps
  where
    by : (ps : List PieceFacts) → last_styles ss (map (in_styles ss) ps) ≡ ss
    by [] = refl
    by (q ∷ ps) = by ps

-- ---- the centre

-- in front of the centre
begun_centre : (c : Span) (i : ℕ) (old : List Style) (ps : List PieceFacts) → i + length ps ≡ c.from → c.from < c.to
    → print_from (Some c) i old ps ≡ print_from None i old ps ++ begin_brace ∷ []
begun_centre c i old [] e h = grind (arith, eq-eqb, ne_eqb, at_end, append-nil)
begun_centre c i old (p ∷ ps) e h = grind (arith, ne_eqb, append_assoc, begun_centre c (i + 1) p.styles ps (omega (arith, e)) h)

-- within it
ended_centre : (c : Span) (j : ℕ) (rs : List PieceFacts) → c.from < j → j + length rs ≡ c.to
    → print_from (Some c) j [] (map (in_styles []) rs) ≡ map printed_as rs ++ end_brace ∷ []
ended_centre c j [] h e = grind (arith, ne_eqb, eq-eqb)
ended_centre c j (r ∷ rs) h e = grind (arith, ne_eqb, ended_centre c (j + 1) rs (omega (arith, h)) (omega (arith, e)))

pub centre_text : (c : Span) (ps rs : List PieceFacts) → blank_after true rs ≡ false → c.from ≡ length ps → c.to ≡ length ps + length rs
    → text_of_tokens (print_from (Some c) 0 [] (ps ++ map (in_styles []) rs)) ≡ text_of_tokens (print_from None 0 [] ps) ++ 123 ∷ (printed_text rs ++ 125 ∷ [])
centre_text c ps [] e f g = absurd (cc)
centre_text c ps (r ∷ rs) e f g =
    let before = print_from None 0 [] ps in
    ap text_of_tokens (after (Some c) 0 (length ps) [] ps (in_styles [] r) (map (in_styles []) rs) (omega arith) (apart_none (last_styles [] ps))
    ∙ ap₂ (λ (ks ls : List Token). ks ++ printed_as r ∷ ls) (begun_centre c 0 [] ps (omega (arith, f)) (omega (arith, f, g))) (ended_centre c (length ps + 1) rs (omega (arith, f)) (omega (arith, g))))
    ∙ written_append (before ++ begin_brace ∷ []) (printed_as r ∷ map printed_as rs ++ end_brace ∷ [])
    ∙ ap₂ (λ (t u : List ℕ). t ++ u) (written_append before (begin_brace ∷ [])) (written_append (printed_as r ∷ map printed_as rs) (end_brace ∷ []))
    ∙ append_assoc (text_of_tokens before) (123 ∷ []) (printed_text (r ∷ rs) ++ 125 ∷ [])
