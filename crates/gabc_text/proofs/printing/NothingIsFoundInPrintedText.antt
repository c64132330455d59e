-- Nothing is found in a printed text whose tags are all known.
use Rattle.std.proofs.Common.{◌≡◌, ℕ, ◌+◌, ◌≤◌, ◌<◌, List, [], ◌∷◌, ◌++◌, Bool, true, false, ◌||◌, ◌&&◌, not, cond, refl, sym, ap, ap₂, ◌∙◌, map, reverse, append-nil, append_assoc, Option, Some, length, length-append, arith}
use Rattle.std.proofs.lemmas.Bool.{or_parts, or_right, false_from_ne_true, true_from_ne_false}
use Rattle.std.proofs.lemmas.List.{reverse-append}
use borrow.Author.Clash.{clash}
use Rattle.std.proofs.Math.Bool.{not-and_self, and-false}
use Rattle.std.proofs.lemmas.List.Folds.{list_any-append}
use Rattle.gabc_places.specs.declared.place.Place.{Place}
use Rattle.gabc_places.specs.declared.place.Span.{Span}
use Rattle.gabc_places.specs.declared.code.Code.{Code}
use Rattle.gabc_places.specs.declared.code.Finding.{Finding}
use Rattle.gabc_text.specs.declared.styles.Style.{Style}
use Rattle.gabc_text.specs.declared.styles.Style.TheVariants.{B, C, E, I, Sc, Tt, Ul}
use Rattle.gabc_text.specs.declared.view.PieceKind.{PieceKind}
use Rattle.gabc_text.specs.declared.token.TokenKind.{TokenKind}
use Rattle.gabc_text.specs.declared.token.TagEffect.{TagEffect}
use Rattle.gabc_text.specs.Token.{Token, spelling}
use Rattle.gabc_text.specs.View.{along, effect, effect_as, piece_kind, PieceFacts, is_same, is_open, is_open_after, is_begin, is_end, has_begin, has_end, is_translation, has_translation, is_left_out, kept_at, kept_as, follows_space, early_codes, late_codes, found_at, findings_at, codes_at_end, findings_at_end, place_of, is_word_kind, is_blank_piece}
use Rattle.gabc_text.specs.ViewFacts.{ViewFacts}
use Rattle.gabc_text.specs.Canonical.{after_common}
use Rattle.gabc_text.specs.Printed.{opening_tag, closing_tag, brace_tokens, tokens_between, printed_piece, print_from, text_of_tokens, text_tokens, translation_tokens, word_break, print_tokens}
use Rattle.gabc_text.proofs.printing.ViewFromFirstToken.{begin_at, end_at}
use Rattle.gabc_text.proofs.printing.PrintedBracesGiveCentre.{at_start, centre_from, no_centre}
use Rattle.gabc_text.proofs.printing.PrintedTextIsReadAgain.{Sound, reverse_push}
use Rattle.gabc_text.proofs.printing.PrintedTextIsKept.{view_kept, word_kept}
use Rattle.gabc_text.specs.machine.RegularBytes.{is_unknown, AllKnown}
use Rattle.gabc_text.proofs.printing.PrintedTagsOpenStyles.{push_append, along_append, member, AllOnce, across, once, same_style, any_reverse, within, tag_opens, tag_closes, open_one, close_one, closed}
use Rattle.gabc_text.proofs.printing.PrintedPiecesAreReadAgain.{AllSilent, printed_by, between_silent, are_braces}
use Rattle.gabc_text.proofs.machine.TokensOneAfterAnother.{onto}
use Rattle.gabc_text.specs.machine.PrintedPieces.{AllGood, Good}
use Rattle.gabc_places.proofs.NothingAfterAnEnd.{both_empty}
use Rattle.gabc_text.proofs.printing.LineFeedBeginsWord.{Alike, break_alike}

-- ---- styles, none of which stands twice

pub itself : (s : Style) → is_same s s ≡ true
itself s = grind arith

in_head : (y : Style) (ys : List Style) → member y (y ∷ ys) ≡ true
in_head y ys = rw (itself y) refl

-- a style that is not another is not it
pub other_too : (r s : Style) → is_same r s ≡ false → is_same s r ≡ false
other_too r s h = false_from_ne_true (is_same s r) (λ e. clash (is_same r s) (ap (λ (x : Style). is_same x s) (sym (same_style s r e)) ∙ itself s) h)

-- a style is not among others that one of them is not
other_than : (y s : Style) (ys : List Style) → member y ys ≡ false → member s ys ≡ true → is_same y s ≡ false
other_than y s ys h g = false_from_ne_true (is_same y s) (λ e. clash (member s ys) g (ap (λ (x : Style). member x ys) (sym (same_style y s e)) ∙ h))

once_more : (xs : List Style) (y : Style) → AllOnce xs → member y xs ≡ false → AllOnce (xs ++ y ∷ [])
once_more [] y h g = (refl, tt)
once_more (x ∷ xs) y h g =
    let n = or_parts (is_same x y) (member y xs) g in
    (list_any-append (λ (r : Style). is_same r x) xs (y ∷ []) ∙ rw (h.0, other_too x y n.0) refl, once_more xs y h.1 n.1)

once_turned : (xs : List Style) → AllOnce xs → AllOnce (reverse xs)
once_turned [] h = tt
once_turned (x ∷ xs) h = rw (reverse-append (x ∷ []) xs) (once_more (reverse xs) x (once_turned xs h.1) (any_reverse x xs ∙ h.0))

-- ---- what is left of two lists of styles

once_old : (old new : List Style) → AllOnce old → AllOnce (after_common old new).0
once_old [] new h = tt
once_old (x ∷ old) [] h = h
once_old (x ∷ old) (y ∷ new) h = grind (arith, once_old old new h.1)

once_new : (old new : List Style) → AllOnce new → AllOnce (after_common old new).1
once_new [] new h = h
once_new (x ∷ old) [] h = tt
once_new (x ∷ old) (y ∷ new) h = grind (arith, once_new old new h.1)

of_old : (s : Style) (old new : List Style) → member s (after_common old new).0 ≡ true → member s old ≡ true
of_old s old new h = true_from_ne_false (member s old) (λ e. clash (member s (after_common old new).0) h (within s old new e))

of_new : (s : Style) (old new : List Style) → member s (after_common old new).1 ≡ true → member s new ≡ true
of_new s [] new h = h
of_new s (x ∷ old) [] h = absurd (cc)
of_new s (x ∷ old) (y ∷ new) h = grind (arith, or_right, of_new s old new)

-- what is left of the new is not open once the old is closed
abbrev IsShut : Style → List Style → List Style → Type 0
IsShut s left old = (not (member s left) && member s old) ≡ false

shut : (s : Style) (old new : List Style) → AllOnce new → member s (after_common old new).1 ≡ true → IsShut s (after_common old new).0 old
shut s [] new h g = refl
shut s (x ∷ old) [] h g = absurd (cc)
shut s (x ∷ old) (y ∷ new) h g = grind (arith, same_style, other_than, of_new, not-and_self, shut s old new h.1)

-- ---- what is found but for braces

abbrev codes_by : List Token → TokenKind → TagEffect → List Code
codes_by before d so = cond (is_begin d || is_end d) [] (early_codes before d ++ late_codes before d so)

abbrev codes_aside : List Token → Token → List Code
codes_aside before k = codes_by before k.kind (effect k)

abbrev NoneAside : List Token → List Token → Type 0
NoneAside before ks = along codes_aside before ks ≡ []

both_aside : (before ks ls : List Token) → NoneAside before ks → NoneAside (onto ks before) ls → NoneAside before (ks ++ ls)
both_aside before ks ls h g = along_append codes_aside before ks ls ∙ ap₂ (λ (a b : List Code). a ++ b) h g

closings_aside : (ys : List Style) (before : List Token) → AllOnce ys → ((s : Style) → member s ys ≡ true → is_open s before ≡ true) → NoneAside before (map closing_tag ys)
closings_aside [] before o h = refl
closings_aside (y ∷ ys) before o h =
    let one : codes_aside before (closing_tag y) ≡ [] = rw (tag_closes y, h y (in_head y ys)) refl in
    ap₂ (λ (a b : List Code). a ++ b) one
    (closings_aside ys (closing_tag y ∷ before) o.1 (λ s g. close_one y s before ∙ rw (other_than y s ys o.0 g) (h s (or_right (is_same y s) (member s ys) g))))

openings_aside : (ys : List Style) (before : List Token) → AllOnce ys → ((s : Style) → member s ys ≡ true → is_open s before ≡ false) → NoneAside before (map opening_tag ys)
openings_aside [] before o h = refl
openings_aside (y ∷ ys) before o h =
    let one : codes_aside before (opening_tag y) ≡ [] = rw (tag_opens y, h y (in_head y ys)) refl in
    ap₂ (λ (a b : List Code). a ++ b) one
    (openings_aside ys (opening_tag y ∷ before) o.1 (λ s g. open_one y s before ∙ rw (other_than y s ys o.0 g) (h s (or_right (is_same y s) (member s ys) g))))

braces_aside : (centre : Option Span) (i : ℕ) (before : List Token) → NoneAside before (brace_tokens centre i)
braces_aside centre i before = grind arith

silent_translated : (ks before : List Token) → AllSilent ks → has_translation (onto ks before) ≡ has_translation before
silent_translated [] before h = refl
silent_translated (k ∷ ks) before h = silent_translated ks (k ∷ before) h.1 ∙ rw (h.0).no_translation refl

-- what tokens leave, after which these styles are open
record Aside (before ks : List Token) (new : List Style) : Type 0 where
  none : NoneAside before ks
  opens : (s : Style) → is_open s (onto ks before) ≡ member s new
  translated : has_translation (onto ks before) ≡ has_translation before

gap_aside : (centre : Option Span) (i : ℕ) (old new : List Style) (before : List Token) → AllOnce old → AllOnce new → ((s : Style) → is_open s before ≡ member s old)
    → Aside before (tokens_between old new (brace_tokens centre i)) new
gap_aside centre i old new before o n h =
    let left = after_common old new in
    let ms = brace_tokens centre i in
    let closing = map closing_tag (reverse (after_common old new).0) in
    let braces = are_braces centre i in
    let back : (s : Style) → member s (reverse (after_common old new).0) ≡ member s (after_common old new).0 = λ s. any_reverse s (after_common old new).0 in
    record {
      none =
          both_aside before (closing ++ ms) (map opening_tag left.1)
          (both_aside before closing ms
          (closings_aside (reverse (after_common old new).0) before (once_turned (after_common old new).0 (once_old old new o)) (λ s g. h s ∙ of_old s old new (sym (back s) ∙ g)))
          (braces_aside centre i (onto closing before)))
          (openings_aside left.1 (onto (closing ++ ms) before) (once_new old new n)
          (λ s g. ap (is_open s) (push_append closing ms before) ∙ braces.quiet s (onto closing before) ∙ closed s (reverse (after_common old new).0) before
          ∙ ap₂ (λ (a b : Bool). not a && b) (back s) (h s) ∙ shut s old new n g));
      opens = λ s. across s old new ms before o braces.quiet (h s);
      translated = silent_translated (tokens_between old new ms) before (between_silent old new ms braces.silent);
    }

-- a piece that is no unknown tag
record Passed (d : TokenKind) (so : TagEffect) : Type 0 where
  none : (before : List Token) → codes_by before d so ≡ []
  opens : (s : Style) (was : Bool) → is_open_after s so was ≡ was
  no_translation : is_translation d ≡ false

piece_passed : (p : PieceFacts) (w b : Bool) → Good p w b → is_unknown p.kind ≡ false → Passed (printed_piece p.kind p.text).kind (effect (printed_piece p.kind p.text))
piece_passed p w b g u =
    printed_by (λ (k : Token). Passed k.kind (effect k)) p w b (λ _ _. record { none = λ before. refl; opens = λ s was. refl; no_translation = refl }) (λ k e. kinds k.kind (spelling k) p.kind u e) g
  where
    kinds : (d : TokenKind) (t : List ℕ) (q : PieceKind) → is_unknown q ≡ false → piece_kind d (effect_as d t) ≡ Some q → Passed d (effect_as d t)
    kinds d t q n e = grind arith

pieces_aside : (centre : Option Span) (i : ℕ) (old : List Style) (ps : List PieceFacts) (w b : Bool) (before : List Token) → AllOnce old → ((s : Style) → is_open s before ≡ member s old)
    → AllGood w b ps → AllKnown ps → Aside before (print_from centre i old ps) []
pieces_aside centre i old [] w b before o h g k = gap_aside centre i old [] before o tt h
pieces_aside centre i old (p ∷ ps) w b before o h g k =
    let gap = tokens_between old p.styles (brace_tokens centre i) in
    let it = printed_piece p.kind p.text in
    let more = print_from centre (i + 1) p.styles ps in
    let none : AllOnce p.styles = rw ((g.0).styles_are) (once (g.0).test) in
    let first = gap_aside centre i old p.styles before o none h in
    let passed = piece_passed p w b g.0 k.0 in
    let rest = pieces_aside centre (i + 1) p.styles ps (is_word_kind (Some p.kind) || w) (is_blank_piece p.kind) (it ∷ onto gap before) none
    (λ s. passed.opens s (is_open s (onto gap before)) ∙ first.opens s) g.1 k.1 in
    let all : onto (gap ++ it ∷ more) before ≡ onto more (it ∷ onto gap before) = push_append gap (it ∷ more) before in
    record {
      none = both_aside before gap (it ∷ more) first.none (ap₂ (λ (x y : List Code). x ++ y) (passed.none (onto gap before)) rest.none);
      opens = λ s. ap (is_open s) all ∙ rest.opens s;
      translated = ap has_translation all ∙ rest.translated ∙ rw passed.no_translation first.translated;
    }

-- ---- no brace is left out

kept_short : (out space : Bool) (d : TokenKind) (c : ℕ) (s : List ℕ) → length (kept_as out space d [] (32 ∷ []) (c ∷ s)) ≤ length (c ∷ s)
kept_short out space d c s = grind arith

all_short : (before ks : List Token) → length (along kept_at before ks) ≤ length (text_of_tokens ks)
all_short before [] = omega arith
all_short before (k ∷ ks) = grind (arith, kept_short, length-append, all_short (k ∷ before) ks)

-- what is kept has no brace that is found
brace_fine : (before : List Token) (k : Token) → 0 < length (kept_at before k) → codes_aside before k ≡ [] → early_codes before k.kind ++ late_codes before k.kind (effect k) ≡ []
brace_fine before k h e = grind arith

pub none_along : (at : Place) (before ks : List Token) → length (along kept_at before ks) ≡ length (text_of_tokens ks) → NoneAside before ks → along (findings_at at) before ks ≡ []
none_along at before [] h e = refl
none_along at before (k ∷ ks) h e =
    let one = kept_short (is_left_out before k.kind) (follows_space before) k.kind k.first k.more in
    let others = all_short (k ∷ before) ks in
    let x = length-append (kept_at before k) (along kept_at (k ∷ before) ks) in
    let y = length-append (spelling k) (text_of_tokens ks) in
    let f = both_empty (codes_aside before k) (along codes_aside (k ∷ before) ks) e in
    ap₂ (λ (a b : List Finding). a ++ b)
    (ap (map (found_at (place_of at before))) (brace_fine before k (omega (arith, one, others, x, y, h)) f.0))
    (none_along at (k ∷ before) ks (omega (arith, one, others, x, y, h)) f.1)

-- ---- what is found at the end

ended_stays : (ks before : List Token) → has_end before ≡ true → has_end (onto ks before) ≡ true
ended_stays [] before h = h
ended_stays (k ∷ ks) before h = ended_stays ks (k ∷ before) (or_right (is_end k.kind && has_begin before) (has_end before) h)

ended_by : (ks before : List Token) (x : ℕ) (xs : List ℕ) → along end_at before ks ≡ x ∷ xs → has_end (onto ks before) ≡ true
ended_by [] before x xs e = absurd (cc)
ended_by (k ∷ ks) before x xs e = grind (arith, end_at, ended_stays, ended_by ks (k ∷ before) x xs)

not_begun : (ks before : List Token) → has_begin before ≡ false → along begin_at before ks ≡ [] → has_begin (onto ks before) ≡ false
not_begun [] before h e = h
not_begun (k ∷ ks) before h e = grind (arith, begin_at, not_begun ks (k ∷ before))

-- ---- of a view

-- after its word start
record Start (b : Bool) : Type 0 where
  none : NoneAside [] (word_break b)
  kept_long : (ks : List Token) → length (word_kept b ++ text_of_tokens ks) ≡ length (text_of_tokens (word_break b ++ ks))

start_of : (b : Bool) → Start b
start_of b = grind arith

-- the centre is not left open
shut_centre : (v : ViewFacts) → Sound v → (before : List Token) → Alike before []
    → (has_begin (onto (text_tokens v) before) && not (has_end (onto (text_tokens v) before))) ≡ false
shut_centre v s before a = grind (arith, not_begun, no_centre, centre_from, at_start, ended_by, and-false)

-- a translation after the text
record After (before : List Token) (tr : Option (List ℕ)) : Type 0 where
  none : NoneAside before (translation_tokens tr)
  codes : codes_at_end (onto (translation_tokens tr) before) ≡ codes_at_end before

translated_once : (before : List Token) (tr : Option (List ℕ)) → has_translation before ≡ false → After before tr
translated_once before tr h = grind arith

no_codes : (before : List Token) → ((s : Style) → is_open s before ≡ false) → (has_begin before && not (has_end before)) ≡ false → codes_at_end before ≡ []
no_codes before h e = rw (h B, h C, h E, h I, h Sc, h Tt, h Ul, e) refl

none_last : (at : Place) (before : List Token) → codes_at_end before ≡ [] → findings_at_end at before ≡ []
none_last at before e = grind arith

pub nothing_in : (v : ViewFacts) → Sound v → AllKnown v.pieces → (at : Place) → along (findings_at at) [] (print_tokens v) ++ findings_at_end at (reverse (print_tokens v)) ≡ []
nothing_in v s known at =
    let a = start_of v.word_start in
    let same = break_alike v.word_start in
    let wb = word_break v.word_start in
    let ms = text_tokens v in
    let ls = translation_tokens v.translation in
    let text = pieces_aside v.centre 0 [] v.pieces false false (onto wb []) tt same.styles s.good known in
    let turn : onto (wb ++ ms) [] ≡ onto ms (onto wb []) = push_append wb ms [] in
    let last = translated_once (onto (wb ++ ms) []) v.translation (ap has_translation turn ∙ text.translated ∙ same.translated) in
    let none : NoneAside [] (wb ++ ms ++ ls) = both_aside [] (wb ++ ms) ls (both_aside [] wb ms a.none text.none) last.none in
    let long : length (along kept_at [] (wb ++ ms ++ ls)) ≡ length (text_of_tokens (wb ++ ms ++ ls)) =
    ap length (view_kept v s) ∙ a.kept_long (ms ++ ls) ∙ ap (λ (ks : List Token). length (text_of_tokens ks)) (sym (append_assoc wb ms ls)) in
    let all : reverse (wb ++ ms ++ ls) ≡ onto ls (onto (wb ++ ms) []) = sym (append-nil (reverse (wb ++ ms ++ ls))) ∙ reverse_push (wb ++ ms ++ ls) [] ∙ push_append (wb ++ ms) ls [] in
    let codes : codes_at_end (reverse (wb ++ ms ++ ls)) ≡ [] =
    ap codes_at_end all ∙ last.codes ∙ ap codes_at_end turn ∙ no_codes (onto ms (onto wb [])) text.opens (shut_centre v s (onto wb []) same) in
    ap₂ (λ (x y : List Finding). x ++ y) (none_along at [] (wb ++ ms ++ ls) long none) (none_last at (reverse (wb ++ ms ++ ls)) codes)
