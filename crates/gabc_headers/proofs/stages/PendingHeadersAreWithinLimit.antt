-- The pending headers of a stage are within their limit, or one `%` that begins a line is above it.
use Rattle.std.proofs.Common.{◌≡◌, ℕ, zero, suc, ◌+◌, ◌-◌, ◌<◌, ◌≤◌, inl, inr, Bool, true, false, cond, ◌==◌, ◌||◌, List, [], ◌∷◌, ◌++◌, length, take, drop, get_or, nat_lt, codes, encode_utf8_all, Option, Some, None, Result, Ok, Err, refl, sym, ap, ◌∙◌, subst, arith, append_assoc, length-append, length-take}
use Rattle.std.specs.Option.{option_map}
use Rattle.std.specs.Char.{len_utf8}
use Rattle.std.specs.List.{All, Contains}
use Rattle.std.proofs.Math.Seq.{take-suc, take-length, drop-append_seam}
use Rattle.std.proofs.lemmas.Bool.{and_parts, ltb-true, ltb-false, eqb-true}
use Rattle.std.proofs.lemmas.Bool.Decides.{nat_tests}
use Rattle.std.proofs.lemmas.List.{get_or_append_left}
use Rattle.std.proofs.lemmas.List.Elements.{All-append, All-contains, All-cons, All-nil, All-head}
use Rattle.std.proofs.lemmas.List.Sums.{sum_by-append, sum_by-cons}
use Rattle.std.proofs.lemmas.Str.{encodes-append}
use lib.Utf8.{encode, encodes}
use Rattle.gabc_places.specs.declared.limits.Limits.{Limits}
use Rattle.gabc_places.specs.declared.place.Place.{Place}
use Rattle.gabc_places.specs.declared.code.Code.{Code}
use Rattle.gabc_places.specs.declared.code.Code.TheVariants.{F3, F4, F7}
use Rattle.gabc_places.specs.Findings.{Stop, earliest, IsNoLater}
use Rattle.gabc_places.specs.Place.{place_after}
use Rattle.gabc_headers.specs.declared.heads.Heads.{Heads}
use Rattle.gabc_headers.specs.declared.heads.HeadFault.{HeadFault}
use Rattle.gabc_headers.specs.Lines.{bytes_len, lines, has_score}
use Rattle.gabc_headers.specs.Book.{book_of}
use Rattle.gabc_headers.specs.Canonical.{header_lines}
use Rattle.gabc_headers.specs.Heads.{head_len, first_above, is_line_percent, too_long, text_stops, open_stops, missing_score, stop_at, open_line, line_place}
use Rattle.gabc_headers.specs.witness.Heads.{heads_by, head_stops, score_stops}
use Rattle.gabc_headers.specs.witness.Parts.{head_parts}
use Rattle.gabc_headers.specs.HeldText.{IsHeld, IsWithinHeaders}
use Rattle.gabc_headers.proofs.entries.TextsAsBytes.{length-encodes}
use Rattle.gabc_headers.proofs.stops.PointsOfStops.{above_within, score_within}

-- ---- the character above the limit

-- what stands before it is within the limit, and with it the text is above
pub record IsAbove (limit : ℕ) (t : List ℕ) (i : ℕ) : Type 0 where
  pub before : bytes_len (take i t) ≤ limit
  pub above : limit < bytes_len (take i t) + len_utf8 (get_or t i 0)

above_at : (limit : ℕ) (t : List ℕ) (i : ℕ) → first_above limit t ≡ Some i → IsAbove limit t i
above_at limit [] i e = absurd (cc)
above_at limit (c ∷ t) i e = by (λ n. above_at (limit - len_utf8 c) t n) (nat_lt limit (len_utf8 c)) refl e
  where
    more : ((n : ℕ) → first_above (limit - len_utf8 c) t ≡ Some n → IsAbove (limit - len_utf8 c) t n) → nat_lt limit (len_utf8 c) ≡ false → (o : Option ℕ) → first_above (limit - len_utf8 c) t ≡ o → option_map (λ (n : ℕ). n + 1) o ≡ Some i → IsAbove limit (c ∷ t) i
    more again f None g h = absurd (cc)
    more again f (Some n) g h =
        let there = again n g in
        let same : suc n ≡ i = let k : n + 1 ≡ i = cc in omega arith in
        let fits = ltb-false limit (len_utf8 c) f in
        subst (IsAbove limit (c ∷ t)) same
        (record {
          before = let s = sum_by-cons len_utf8 c (take n t) in omega (arith, there.before);
          above = let s = sum_by-cons len_utf8 c (take n t) in omega (arith, there.above);
        })

    by : ((n : ℕ) → first_above (limit - len_utf8 c) t ≡ Some n → IsAbove (limit - len_utf8 c) t n) → (b : Bool) → nat_lt limit (len_utf8 c) ≡ b
        → cond b (Some 0) (option_map (λ (n : ℕ). n + 1) (first_above (limit - len_utf8 c) t)) ≡ Some i → IsAbove limit (c ∷ t) i
    by again true f g =
        let same : 0 ≡ i = cc in
        let above = ltb-true limit (len_utf8 c) f in
        subst (IsAbove limit (c ∷ t)) same (record { before = omega arith; above = omega (arith, above) })
    by again false f g = more again f (first_above (limit - len_utf8 c) t) refl g

-- a text without such a character is within the limit
none_above : (limit : ℕ) (t : List ℕ) → first_above limit t ≡ None → bytes_len t ≤ limit
none_above limit [] e = omega arith
none_above limit (c ∷ t) e = by (none_above (limit - len_utf8 c) t) (nat_lt limit (len_utf8 c)) refl e
  where
    more : (first_above (limit - len_utf8 c) t ≡ None → bytes_len t ≤ limit - len_utf8 c) → nat_lt limit (len_utf8 c) ≡ false → (o : Option ℕ) → first_above (limit - len_utf8 c) t ≡ o → option_map (λ (n : ℕ). n + 1) o ≡ None → bytes_len (c ∷ t) ≤ limit
    more again f None g h =
        let rest = again g in
        let fits = ltb-false limit (len_utf8 c) f in
        let s = sum_by-cons len_utf8 c t in omega (arith, rest, fits, s)
    more again f (Some n) g h = absurd (cc)

    by : (first_above (limit - len_utf8 c) t ≡ None → bytes_len t ≤ limit - len_utf8 c) → (b : Bool) → nat_lt limit (len_utf8 c) ≡ b
        → cond b (Some 0) (option_map (λ (n : ℕ). n + 1) (first_above (limit - len_utf8 c) t)) ≡ None → bytes_len (c ∷ t) ≤ limit
    by again true f g = absurd (cc)
    by again false f g = more again f (first_above (limit - len_utf8 c) t) refl g

-- ---- one `%` above it

-- the last character
last_at : (t : List ℕ) (i : ℕ) → i + 1 ≡ length t → t ≡ take i t ++ get_or t i 0 ∷ []
last_at t i e =
    let n : suc i ≡ length t = omega (arith, e) in
    sym (take-length t) ∙ ap (λ (k : ℕ). take k t) (sym n) ∙ take-suc t i 0 (omega (arith, e))

-- a text with an LF and a `%` at its end, of which the `%` alone is above the limit
ends_above : (limit : ℕ) (u : List ℕ) → bytes_len u + 1 ≡ limit → drop (limit - 1) (encode_utf8_all (u ++ 10 ∷ 37 ∷ [])) ≡ codes "\n%"
unfolding encode
ends_above limit u e =
    let n : limit - 1 ≡ length (encodes u) = omega (arith, e, length-encodes u) in
    ap (λ (k : ℕ). drop k (encodes (u ++ 10 ∷ 37 ∷ []))) n ∙ ap (drop (length (encodes u))) (encodes-append u (10 ∷ 37 ∷ [])) ∙ drop-append_seam (encodes u) (codes "\n%")

-- where the last character is a `%` that begins a line and is above the limit
percent_above : (limit : ℕ) (t : List ℕ) (i : ℕ) → 1 ≤ limit → i + 1 ≡ length t → is_line_percent t i ≡ true → IsAbove limit t i → drop (limit - 1) (encode_utf8_all t) ≡ codes "\n%"
percent_above limit t zero some e line above = grind (arith, eqb-true, and_parts)
percent_above limit t (suc j) some e line above =
    let parts = and_parts (get_or t (suc j) 0 == 37) ((suc j == 0) || (get_or t (suc j - 1) 0 == 10)) line in
    let percent = eqb-true (get_or t (suc j) 0) 37 parts.0 in
    let before : suc j - 1 ≡ j = omega arith in
    let feed : get_or t j 0 ≡ 10 = grind (arith, nat_tests, parts.1, before) in
    let front : take (suc j) t ≡ take j t ++ 10 ∷ [] = take-suc t j 0 (omega (arith, e)) ∙ ap (λ (c : ℕ). take j t ++ c ∷ []) feed in
    let whole : t ≡ take j t ++ 10 ∷ 37 ∷ [] =
    last_at t (suc j) e ∙ ap (λ (c : ℕ). take (suc j) t ++ c ∷ []) percent ∙ ap (λ (u : List ℕ). u ++ 37 ∷ []) front ∙ append_assoc (take j t) (10 ∷ []) (37 ∷ []) in
    let counted : bytes_len (take (suc j) t) ≡ bytes_len (take j t) + 1 = ap bytes_len front ∙ sum_by-append len_utf8 (take j t) (10 ∷ []) in
    let one : len_utf8 (get_or t (suc j) 0) ≡ 1 = ap len_utf8 percent in
    ap (λ (x : List ℕ). drop (limit - 1) (encode_utf8_all x)) whole ∙ ends_above limit (take j t) (omega (arith, above.before, above.above, counted, one))

-- ---- what stops the headers

abbrev StopsBefore : ℕ → Stop → Type 0
StopsBefore n s = s.point < n

abbrev AreBefore : ℕ → List Stop → Type 0
AreBefore n ss = All (StopsBefore n) ss

one_before : (n p : ℕ) (place : Place) (code : Code) → p < n → AreBefore n (stop_at p place code ∷ [])
one_before n p place code less = All-cons (StopsBefore n) (stop_at p place code) [] less (All-nil (StopsBefore n))

if_before : (n p : ℕ) (place : Place) (code : Code) (b : Bool) → p < n → AreBefore n (cond b (stop_at p place code ∷ []) [])
if_before n p place code b less = grind (arith, one_before, All-nil)

sizes_before : (n p : ℕ) (place : Place) (x y : Bool) → p < n → AreBefore n (cond x (stop_at p place F4 ∷ []) [] ++ cond y (stop_at p place F7 ∷ []) [])
sizes_before n p place x y less = All-append (StopsBefore n) (cond x (stop_at p place F4 ∷ []) []) (cond y (stop_at p place F7 ∷ []) []) (if_before n p place F4 x less) (if_before n p place F7 y less)

all_front : {X : Type 0} (P : X → Type 0) (xs ys : List X) → All P (xs ++ ys) → All P xs
all_front P xs ys all k d less = subst P (get_or_append_left xs ys d k less) (all k d (omega (arith, less, length-append xs ys)))

-- what stops them after their text
abbrev after_text : Limits → List ℕ → Bool → List Stop
after_text limits t b = cond b (open_stops (head_len t + 1) (open_line (head_parts t)) ++ score_stops limits t) (open_stops (length t) (open_line (head_parts t)) ++ missing_score (open_line (head_parts t)) t)

-- where there is a line `%%`, what stops the headers stands before the end
text_before : (limit : ℕ) (t : List ℕ) → has_score (lines t) ≡ true → AreBefore (length t) (text_stops limit t)
text_before limit t score = by (first_above limit (take (head_len t) t)) refl
  where
    cases : (b d : Bool) (i : ℕ) → i + 1 < length t → AreBefore (length t) (cond b (cond d (stop_at (i + 1) (place_after (take i t)) F4 ∷ []) []) (stop_at i (place_after (take i t)) F4 ∷ []))
    cases true d i less = if_before (length t) (i + 1) (place_after (take i t)) F4 d less
    cases false d i less = one_before (length t) i (place_after (take i t)) F4 (omega (arith, less))

    by : (o : Option ℕ) → first_above limit (take (head_len t) t) ≡ o → AreBefore (length t) (too_long t o)
    by None e = All-nil (StopsBefore (length t))
    by (Some i) e =
        let within = above_within limit (take (head_len t) t) i e in
        let short = length-take (head_len t) t in
        cases (is_line_percent t i) (nat_lt (i + 1) (length t)) i (omega (arith, within, short, score_within t score))

score_before : (limits : Limits) (t : List ℕ) → has_score (lines t) ≡ true → AreBefore (length t) (head_stops limits t)
score_before limits t score = All-append (StopsBefore n) (text_stops limits.header t) (after_text limits t (has_score (lines t))) (text_before limits.header t score) (subst (λ (b : Bool). AreBefore n (after_text limits t b)) (sym score) scored)
  where
    n : ℕ
    n = length t

    p : ℕ
    p = head_len t + 1

    less : p < n
    less = omega (arith, score_within t score)

    size : ℕ
    size = bytes_len (header_lines (book_of (head_parts t)))

    opened : (o : Option ℕ) → AreBefore n (open_stops p o)
    opened None = All-nil (StopsBefore n)
    opened (Some k) = one_before n p (line_place k) F3 less

    scored : AreBefore n (open_stops p (open_line (head_parts t)) ++ score_stops limits t)
    scored = All-append (StopsBefore n) (open_stops p (open_line (head_parts t))) (score_stops limits t) (opened (open_line (head_parts t)))
        (sizes_before n p (place_after (take (head_len t) t)) (nat_lt limits.header size) (nat_lt limits.input (size + 3)) less)

module _ (limits : Limits) (t : List ℕ) (some : 1 ≤ limits.header) (r : Stop) (contains : Contains (head_stops limits t) r) (least : All (IsNoLater r) (head_stops limits t)) (at_end : r.point ≡ length t) where
  unscored : has_score (lines t) ≡ false
  unscored = grind (arith, All-contains, score_before)

  -- so the text does not stop earlier
  past : (p : ℕ) (place : Place) → IsNoLater r (stop_at p place F4) → p < length t → ⊥
  past p place h less = grind arith

  text_is_whole : text_stops limits.header t ≡ too_long t (first_above limits.header t)
  text_is_whole = ap (λ (n : ℕ). too_long t (first_above limits.header (take n t))) (rw unscored refl) ∙ ap (λ (x : List ℕ). too_long t (first_above limits.header x)) (take-length t)

  none_before : All (IsNoLater r) (too_long t (first_above limits.header t))
  none_before = subst (All (IsNoLater r)) text_is_whole (all_front (IsNoLater r) (text_stops limits.header t) (after_text limits t (has_score (lines t))) least)

  by_percent : (i : ℕ) → first_above limits.header t ≡ Some i → (b d : Bool) → is_line_percent t i ≡ b → nat_lt (i + 1) (length t) ≡ d
      → All (IsNoLater r) (cond b (cond d (stop_at (i + 1) (place_after (take i t)) F4 ∷ []) []) (stop_at i (place_after (take i t)) F4 ∷ [])) → IsWithinHeaders limits.header (encode_utf8_all t)
  by_percent i e true true line more all = absurd (let less = ltb-true (i + 1) (length t) more in past (i + 1) (place_after (take i t)) (All-head (IsNoLater r) _ [] all) less)
  by_percent i e true false line more all =
      let last : i + 1 ≡ length t = omega (arith, above_within limits.header t i e, ltb-false (i + 1) (length t) more) in
      inr (percent_above limits.header t i some last line (above_at limits.header t i e))
  by_percent i e false d line more all = absurd (past i (place_after (take i t)) (All-head (IsNoLater r) _ [] all) (above_within limits.header t i e))

  pub within : IsWithinHeaders limits.header (encode_utf8_all t)
  within = by (first_above limits.header t) refl none_before
    where
      by : (o : Option ℕ) → first_above limits.header t ≡ o → All (IsNoLater r) (too_long t o) → IsWithinHeaders limits.header (encode_utf8_all t)
      by None e all = inl (omega (arith, none_above limits.header t e, length-encodes t))
      by (Some i) e all = by_percent i e (is_line_percent t i) (nat_lt (i + 1) (length t)) refl refl all

abbrev at_end_of : Result Heads HeadFault → Bool
at_end_of (Ok heads) = false
at_end_of (Err stopped) = stopped.at_end

pub held_within : ((stops : List Stop) (s : Stop) → earliest stops ≡ Some s → Contains stops s) → ((stops : List Stop) (s : Stop) → earliest stops ≡ Some s → All (IsNoLater s) stops)
    → (limits : Limits) (t : List ℕ) → 1 ≤ limits.header → IsHeld limits t → IsWithinHeaders limits.header (encode_utf8_all t)
held_within found least limits t some held = by (earliest (head_stops limits t)) refl held.heads
  where
    by : (o : Option Stop) → earliest (head_stops limits t) ≡ o → heads_by t o ≡ Err held.stopped → IsWithinHeaders limits.header (encode_utf8_all t)
    by None e h = absurd (cc)
    by (Some r) e h =
        let is : (r.point == length t) ≡ true = ap at_end_of h ∙ held.at_end in
        within limits t some r (found (head_stops limits t) r e) (least (head_stops limits t) r e) (eqb-true r.point (length t) is)
