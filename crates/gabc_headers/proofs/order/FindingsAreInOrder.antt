-- The findings of a text's headers stand in order.
use Rattle.std.proofs.Common.{◌≡◌, ℕ, ◌+◌, ◌<◌, ◌≤◌, ◌==◌, ◌||◌, ◌&&◌, not, suc, List, [], ◌∷◌, ◌++◌, Bool, true, false, cond, refl, sym, ap, ◌∙◌, arith, length, take, Option, Some, None, inl, count_by, codes, zero, zero-add, lit<}
use Rattle.gabc_places.specs.declared.limits.Limits.{Limits}
use Rattle.gabc_places.specs.declared.code.Code.TheVariants.{W1}
use Rattle.std.proofs.lemmas.List.Sums.{sum_by-append}
use Rattle.gabc_places.specs.declared.code.Finding.{Finding}
use Rattle.gabc_places.specs.Place.{place_after, is_line_feed}
use Rattle.gabc_places.specs.Findings.{Known, findings_before, AreInOrder, ComeAfter, Stop, earliest}
use Rattle.gabc_headers.specs.Lines.{lines, on_first, lines_len, head_of, has_score, is_bare, has_mark, before_mark, mark_end, has_colon, before_colon, after_colon}
use Rattle.gabc_headers.specs.Parts.{HeaderPart, left_out, name_of, ended_parts, bad_name_parts}
use Rattle.gabc_headers.specs.witness.Parts.{LineContext, outside, within, parts, head_parts}
use Rattle.gabc_headers.specs.Book.{has_header, book_of}
use Rattle.gabc_headers.specs.Heads.{head_len, findings_after, heads_of, findings_of, known_at}
use Rattle.gabc_headers.specs.witness.Heads.{head_findings, name_findings, heads_by, head_stops}

-- findings on rising lines, all after line k and before line m
abbrev pub Rise : ℕ → ℕ → List Known → Type 0
Rise k m [] = k < m
Rise k m (f ∷ fs) = (k < f.finding.place.line) × Rise f.finding.place.line m fs

rise_from : (j k m : ℕ) (fs : List Known) → j ≤ k → Rise k m fs → Rise j m fs
rise_from j k m [] l h = (let x : k < m = h in omega arith)
rise_from j k m (f ∷ fs) l h = ((let x : k < f.finding.place.line = h.0 in omega arith), h.1)

pub rise_up : (k m : ℕ) (fs : List Known) → Rise k m fs → k < m
rise_up k m [] h = h
rise_up k m (f ∷ fs) h = let x = rise_up f.finding.place.line m fs h.1 in let y : k < f.finding.place.line = h.0 in omega arith

-- two such lists one after the other
rise_append : (k m n : ℕ) (fs gs : List Known) → Rise k m fs → ((j : ℕ) → j < m → Rise j n gs) → Rise k n (fs ++ gs)
rise_append k m n [] gs h r = r k h
rise_append k m n (f ∷ fs) gs h r = (h.0, rise_append f.finding.place.line m n fs gs h.1 r)

-- the lines of findings
abbrev Lines : ℕ → List Finding → Type 0
Lines k [] = Unit {0}
Lines k (f ∷ fs) = (k < f.place.line) × Lines f.place.line fs

lines_from : (j k : ℕ) (fs : List Finding) → j ≤ k → Lines k fs → Lines j fs
lines_from j k [] l h = tt
lines_from j k (f ∷ fs) l h = ((let x : k < f.place.line = h.0 in omega arith), h.1)

rise_known : (k m p : ℕ) (fs : List Known) → Rise k m fs → Lines k (findings_before p fs)
rise_known k m p [] h = tt
rise_known k m p (f ∷ fs) h = grind (arith, rise_known f.finding.place.line m p fs h.1, lines_from)

lines_order : (k : ℕ) (fs : List Finding) → Lines k fs → AreInOrder fs
lines_order k [] h = tt
lines_order k (f ∷ fs) h = after f fs h.1
  where
    after : (f : Finding) (fs : List Finding) → Lines f.place.line fs → ComeAfter f fs
    after f [] h = tt
    after f (g ∷ gs) h = (inl h.0, after g gs h.1)

-- ---- the parts

-- a header's finding stands after line j; a header without a name has none
abbrev Fits : Option (List ℕ) → ℕ → ℕ → Type 0
Fits None j i = j ≤ i
Fits (Some name) j i = j < i

-- the header at line i, and parts after it
header_rise : (s : List (List ℕ)) (i m : ℕ) (o : Option (List ℕ)) (v : List ℕ) (p : ℕ) (qs : List HeaderPart) (j : ℕ) → Fits o j i
    → ((t : List (List ℕ)) (h : ℕ) → h ≤ i → Rise h m (findings_after t qs)) → Rise j m (findings_after s (ended_parts i o v p ++ qs))
header_rise s i m o v p qs j l r = grind (arith, rise_from)

-- where the parts of a header's first line or of a line within a value lead
module _ (m : ℕ) (qs : LineContext → List HeaderPart) where
  -- a line within a value
  within_rise : (b : Bool) (s : List (List ℕ)) (i : ℕ) (o : Option (List ℕ)) (u v : List ℕ) (p j : ℕ) → Fits o j i
      → ((t : List (List ℕ)) (h : ℕ) → h ≤ i → Rise h m (findings_after t (qs outside))) → Rise j m (findings_after s (qs (within i o u)))
      → Rise j m (findings_after s (cond b (ended_parts i o v p) [] ++ qs (cond b outside (within i o u))))
  within_rise b s i o u v p j l r w = grind (arith, header_rise)

  -- a line outside: skipped, without `:`, or a header's first line
  outside_rise : (bare colon mark : Bool) (s : List (List ℕ)) (k : ℕ) (o : Option (List ℕ)) (u v : List ℕ) (a p e j : ℕ) → j < k
      → ((t : List (List ℕ)) (h : ℕ) → h ≤ k → Rise h m (findings_after t (qs outside)))
      → ((t : List (List ℕ)) (h : ℕ) → Fits o h k → Rise h m (findings_after t (qs (within k o u))))
      → Rise j m (findings_after s (cond bare [] (cond colon (bad_name_parts k o a ++ cond mark (ended_parts k o v p) []) (left_out k e ∷ [])) ++ qs (cond (bare || (not colon || mark)) outside (within k o u))))
  outside_rise bare colon mark s k o u v a p e j l r w = grind (arith, header_rise)

abbrev Starts : LineContext → ℕ → ℕ → Type 0
Starts outside k j = j < k
Starts (within i o v) k j = (i < k) × Fits o j i

fits_below : (o : Option (List ℕ)) (i k j : ℕ) → i < k → Fits o j i → j < k
fits_below o i k j l h = grind arith

-- the findings of the parts from line k on are after line j, and on lines before the one after them
pub rises : (ls : List (List ℕ)) (w : LineContext) (k n : ℕ) (s : List (List ℕ)) (j : ℕ) → Starts w k j → Rise j (k + length ls) (findings_after s (parts w k n ls))
rises [] outside k n s j h = (let x : j < k = h in omega arith)
rises [] (within i o v) k n s j h = (let x = fits_below o i k j h.0 h.1 in omega arith)
rises (l ∷ ls) outside k n s j h =
    let e : k + length (l ∷ ls) ≡ k + 1 + length ls = omega arith in
    rw e (outside_rise (k + 1 + length ls) (λ w. parts w (k + 1) (n + (length l + 1)) ls) (is_bare l) (has_colon l) (has_mark 1 (after_colon l)) s k (name_of l) (after_colon l)
    (before_mark 1 (after_colon l)) (n + length (before_colon l)) (n + (length (before_colon l) + (1 + mark_end 1 (after_colon l)))) (n + length l) j h
    (λ t g x. rises ls outside (k + 1) (n + (length l + 1)) t g (omega arith))
    (λ t g x. rises ls (within k (name_of l) (after_colon l)) (k + 1) (n + (length l + 1)) t g ((omega arith), x)))
rises (l ∷ ls) (within i o v) k n s j h =
    let e : k + length (l ∷ ls) ≡ k + 1 + length ls = omega arith in
    let b : i < k = h.0 in
    rw e (within_rise (k + 1 + length ls) (λ w. parts w (k + 1) (n + (length l + 1)) ls) (has_mark 2 l) s i o (v ++ 10 ∷ l) (v ++ 10 ∷ before_mark 2 l) (n + mark_end 2 l) j h.1
    (λ t g x. rises ls outside (k + 1) (n + (length l + 1)) t g (omega arith))
    (rises ls (within i o (v ++ 10 ∷ l)) (k + 1) (n + (length l + 1)) s j ((omega arith), h.1)))

-- ---- the line of the line `%%`

count-cons : (c : ℕ) (t : List ℕ) → count_by is_line_feed (c ∷ t) ≡ count_by is_line_feed (c ∷ []) + count_by is_line_feed t
count-cons c t = sum_by-append (λ (x : ℕ). cond (is_line_feed x) 1 0) (c ∷ []) t

-- as many LFs stand before a line as there are lines before it
lf_before : (t : List ℕ) (i : ℕ) → i < length (lines t) → count_by is_line_feed (take (lines_len (take i (lines t))) t) ≡ i
lf_before [] zero h = refl
lf_before [] (suc i) h = absurd (omega arith)
lf_before (c ∷ t) zero h = refl
lf_before (c ∷ t) (suc i) h = by (c == 10) refl h (lf_before t)
  where
    of : (ls : List (List ℕ)) → (c == 10) ≡ false → suc i < length (on_first c ls) → ((n : ℕ) → n < length ls → count_by is_line_feed (take (lines_len (take n ls)) t) ≡ n)
        → count_by is_line_feed (take (lines_len (take (suc i) (on_first c ls))) (c ∷ t)) ≡ suc i
    of [] e h r = absurd (omega arith)
    of (l ∷ ls) e h r =
        let g = r (suc i) (omega arith) in
        let d : suc (length l) + (1 + lines_len (take i ls)) ≡ suc (length l + (1 + lines_len (take i ls))) = omega arith in
        rw (d) (count-cons c (take (length l + (1 + lines_len (take i ls))) t) ∙ rw (e) (zero-add _ ∙ g))

    by : (b : Bool) → (c == 10) ≡ b → suc i < length (cond b ([] ∷ lines t) (on_first c (lines t))) → ((n : ℕ) → n < length (lines t) → count_by is_line_feed (take (lines_len (take n (lines t))) t) ≡ n)
        → count_by is_line_feed (take (lines_len (take (suc i) (cond b ([] ∷ lines t) (on_first c (lines t))))) (c ∷ t)) ≡ suc i
    by true e h r =
        let g = r i (omega arith) in
        let d : 0 + (1 + lines_len (take i (lines t))) ≡ suc (lines_len (take i (lines t))) = omega arith in
        rw (d) (count-cons c (take (lines_len (take i (lines t))) t) ∙ rw (e, g) (omega arith))
    by false e h r = of (lines t) e h r

head_take : (ls : List (List ℕ)) → take (length (head_of ls)) ls ≡ head_of ls
head_take [] = refl
head_take (l ∷ ls) = grind (arith, head_take ls)

head_below : (ls : List (List ℕ)) → has_score ls ≡ true → length (head_of ls) < length ls
head_below [] h = absurd (cc)
head_below (l ∷ ls) h = grind (arith, head_below ls)

pub score_line : (t : List ℕ) → has_score (lines t) ≡ true → (place_after (take (head_len t) t)).line ≡ 1 + length (head_of (lines t))
score_line t s =
    let e : head_len t ≡ lines_len (head_of (lines t)) = rw s refl in
    ap (λ (n : ℕ). 1 + count_by is_line_feed (take n t)) (e ∙ sym (ap (λ (x : List (List ℕ)). lines_len x) (head_take (lines t))))
    ∙ ap (λ (n : ℕ). 1 + n) (lf_before t (length (head_of (lines t))) (head_below (lines t) s))

head_rise : (t : List ℕ) → (m : ℕ) × Rise 0 m (head_findings t)
head_rise t = (
  2 + (length (head_of (lines t)) + (place_after (take (head_len t) t)).line),
  rise_append 0 (1 + length (head_of (lines t))) _ (findings_after [] (head_parts t)) (name_findings t) (rises (head_of (lines t)) outside 1 0 [] 0 (lit< tt)) last,
)
  where
    by : (a b : Bool) (k : Known) (j : ℕ) → (a ≡ true → j < k.finding.place.line) → k.finding.place.line < 2 + (length (head_of (lines t)) + (place_after (take (head_len t) t)).line) → j < 1 + length (head_of (lines t))
        → Rise j (2 + (length (head_of (lines t)) + (place_after (take (head_len t) t)).line)) (cond (a && not b) (k ∷ []) [])
    by true false k j f g h = (f refl, g)
    by true true k j f g h = omega arith
    by false b k j f g h = omega arith

    last : (j : ℕ) → j < 1 + length (head_of (lines t)) → Rise j (2 + (length (head_of (lines t)) + (place_after (take (head_len t) t)).line)) (name_findings t)
    last j h = by (has_score (lines t)) (has_header (codes "name") (book_of (head_parts t))) (known_at (head_len t + 1) (place_after (take (head_len t) t)) W1) j
        (λ s. let e = score_line t s in omega arith) (omega arith) h

-- what is found stands in order
pub heads_order : (limits : Limits) (t : List ℕ) → AreInOrder (findings_of (heads_of limits t))
heads_order limits t = by (earliest (head_stops limits t))
  where
    at : (p : ℕ) → AreInOrder (findings_before p (head_findings t))
    at p = lines_order 0 (findings_before p (head_findings t)) (rise_known 0 (head_rise t).0 p (head_findings t) (head_rise t).1)

    by : (o : Option Stop) → AreInOrder (findings_of (heads_by t o))
    by None = at (length t + 1)
    by (Some s) = at s.point
