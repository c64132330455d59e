-- Headers that are not too long, under larger limits.
use Rattle.std.proofs.Common.{◌≡◌, ℕ, ◌+◌, ◌-◌, ◌<◌, ◌≤◌, List, [], ◌∷◌, ◌++◌, Bool, true, false, cond, refl, sym, ap, ◌∙◌, arith, nat_lt, length, length-take, take, ◌⊎◌, inl, inr, Option, Some, None, Result, Err}
use Rattle.std.specs.Option.{option_map}
use Rattle.std.specs.Char.{len_utf8}
use Rattle.std.proofs.lemmas.Bool.Decides.{nat_tests}
use Rattle.gabc_places.proofs.NumbersByTests.{below_eqb}
use Rattle.gabc_places.specs.declared.place.Place.{Place}
use Rattle.gabc_places.specs.declared.limits.Limits.{Limits}
use Rattle.gabc_places.specs.declared.code.Code.TheVariants.{F2, F3, F4, F7}
use Rattle.gabc_places.specs.LargerLimits.{AreNoLess}
use Rattle.gabc_places.specs.Place.{place_after}
use Rattle.gabc_places.specs.Findings.{Stop, earliest}
use Rattle.gabc_headers.specs.declared.heads.Heads.{Heads}
use Rattle.gabc_headers.specs.declared.heads.HeadFault.{HeadFault}
use Rattle.gabc_headers.specs.Lines.{bytes_len, lines, has_score}
use Rattle.gabc_headers.specs.Book.{book_of}
use Rattle.gabc_headers.specs.Canonical.{header_lines}
use Rattle.gabc_headers.specs.TooLong.{is_too_long}
use Rattle.gabc_headers.specs.Heads.{head_len, open_line, line_place, stop_at, first_above, too_long, text_stops, open_stops, missing_score, heads_of}
use Rattle.gabc_headers.specs.witness.Heads.{score_stops, head_stops, heads_by}
use Rattle.gabc_headers.specs.witness.Parts.{head_parts}
use Rattle.gabc_headers.proofs.stops.PointsOfStops.{above_within, limit_within, first_earliest, open_first, score_within}
use Rattle.gabc_headers.proofs.stops.HeadsByEnding.{others_after, sizes_first}

-- ---- the text before the line `%%`

-- where a limit is passed, a smaller one is too, at the same character or before
abbrev IsPassedBefore : ℕ → List ℕ → ℕ → Type 0
IsPassedBefore limit t j = (i : ℕ) × (first_above limit t ≡ Some i) × (i ≤ j)

passed_before : (limit larger : ℕ) (t : List ℕ) (j : ℕ) → limit ≤ larger → first_above larger t ≡ Some j → IsPassedBefore limit t j
passed_before limit larger [] j h e = absurd (cc)
passed_before limit larger (c ∷ t) j h e = by (nat_lt limit (len_utf8 c)) refl (nat_lt larger (len_utf8 c)) refl (first_above (larger - len_utf8 c) t) refl (λ n l. passed_before (limit - len_utf8 c) (larger - len_utf8 c) t n l) e
  where
    by : (a : Bool) → nat_lt limit (len_utf8 c) ≡ a → (b : Bool) → nat_lt larger (len_utf8 c) ≡ b → (o : Option ℕ) → first_above (larger - len_utf8 c) t ≡ o
        → ((n : ℕ) → limit - len_utf8 c ≤ larger - len_utf8 c → first_above (larger - len_utf8 c) t ≡ Some n → IsPassedBefore (limit - len_utf8 c) t n)
        → cond b (Some 0) (option_map (λ (n : ℕ). n + 1) o) ≡ Some j
        → (i : ℕ) × (cond a (Some 0) (option_map (λ (n : ℕ). n + 1) (first_above (limit - len_utf8 c) t)) ≡ Some i) × (i ≤ j)
    by true x b y o f r k = (0, refl, omega arith)
    by false x true y o f r k = absurd (grind (arith, nat_tests))
    by false x false y None f r k = absurd (cc)
    by false x false y (Some n) f r k =
        let z : n + 1 ≡ j = cc in
        let before = r n (omega arith) f in
        let l = before.2 in
        (before.0 + 1, ap (λ (o : Option ℕ). option_map (λ (m : ℕ). m + 1) o) before.1, omega arith)

-- no stop, or one by which the text is too long
abbrev IsOneStop : List Stop → Type 0
IsOneStop stops = (stops ≡ []) ⊎ ((p : ℕ) × (place : Place) × (stops ≡ stop_at p place F4 ∷ []))

-- a text is too long at one point at most
one_stop : (t : List ℕ) (o : Option ℕ) → IsOneStop (too_long t o)
one_stop t o = grind arith

-- only the last character of a text can pass the limit without a stop
last_alone : (t : List ℕ) (i : ℕ) → too_long t (Some i) ≡ [] → length t ≤ i + 1
last_alone t i e = grind arith

-- a text that is not too long is not too long under a larger limit
text_not_long : (limit larger : ℕ) (t : List ℕ) → limit ≤ larger → text_stops limit t ≡ [] → text_stops larger t ≡ []
text_not_long limit larger t h e = by (first_above larger (take (head_len t) t)) refl
  where
    by : (o : Option ℕ) → first_above larger (take (head_len t) t) ≡ o → too_long t o ≡ []
    by None f = refl
    by (Some j) f =
        let r = passed_before limit larger (take (head_len t) t) j h f in
        let s : too_long t (Some (r.0)) ≡ [] = sym (ap (too_long t) r.1) ∙ e in
        let last = last_alone t r.0 s in
        let within = above_within larger (take (head_len t) t) j f in
        let size = length-take (head_len t) t in
        let l = r.2 in
        let same : j ≡ r.0 = omega arith in
        ap (λ (n : ℕ). too_long t (Some n)) same ∙ s

-- ---- the earliest stop

-- the earliest stop of a text that is not too long: with a line `%%` or not, with an open value or not, and with sizes above the limits or not
abbrev pub earliest_of : List ℕ → Bool → Option ℕ → Bool → Bool → Option Stop
earliest_of t true (Some k) x y = Some (stop_at (head_len t + 1) (line_place k) F3)
earliest_of t true None x y = cond x (Some (stop_at (head_len t + 1) (place_after (take (head_len t) t)) F4)) (cond y (Some (stop_at (head_len t + 1) (place_after (take (head_len t) t)) F7)) None)
earliest_of t false (Some k) x y = Some (stop_at (length t) (line_place k) F3)
earliest_of t false None x y = Some (stop_at (length t) (place_after t) F2)

-- the bytes of the canonical lines
abbrev size_of : List ℕ → ℕ
size_of t = bytes_len (header_lines (book_of (head_parts t)))

-- the earliest stop of a text that is not too long, under these limits
abbrev pub stop_of : Limits → List ℕ → Option Stop
stop_of limits t = earliest_of t (has_score (lines t)) (open_line (head_parts t)) (nat_lt limits.header (size_of t)) (nat_lt limits.input (size_of t + 3))

-- which it is
earliest_is : (limits : Limits) (t : List ℕ) → text_stops limits.header t ≡ [] → earliest (head_stops limits t) ≡ stop_of limits t
earliest_is limits t e = grind (arith, open_first, sizes_first)

-- the headers of a text that is not too long
pub heads_are : (limits : Limits) (t : List ℕ) → text_stops limits.header t ≡ [] → heads_of limits t ≡ heads_by t (stop_of limits t)
heads_are limits t e = ap (heads_by t) (earliest_is limits t e)

-- the headers of a text that is too long
heads_long : (limits : Limits) (t : List ℕ) (p : ℕ) (place : Place) → text_stops limits.header t ≡ stop_at p place F4 ∷ [] → heads_of limits t ≡ heads_by t (Some (stop_at p place F4))
heads_long limits t p place e =
    let w = limit_within limits.header t p place e in
    ap (λ (x : List Stop). heads_by t (earliest (x ++ cond (has_score (lines t)) (open_stops (head_len t + 1) (open_line (head_parts t)) ++ score_stops limits t) (open_stops (length t) (open_line (head_parts t)) ++ missing_score (open_line (head_parts t)) t)))) e
    ∙ ap (heads_by t) (first_earliest (stop_at p place F4) _ (others_after limits t p w.0 w.1))

-- ---- larger limits

-- the headers are not stopped as too long
abbrev IsNotLong : Result Heads HeadFault → Type 0
IsNotLong heads = (stop : HeadFault) → heads ≡ Err stop → is_too_long stop.fault.code ≡ false

-- a stop for a length is against that
never_long : (t : List ℕ) (p : ℕ) (place : Place) → IsNotLong (heads_by t (Some (stop_at p place F4))) → ⊥
never_long t p place h = let e = h _ refl in cc

-- headers that are not too long are the same under larger limits
pub same_heads : (limits larger : Limits) (t : List ℕ) → AreNoLess limits larger → limits.input ≡ larger.input → IsNotLong (heads_of limits t) → heads_of larger t ≡ heads_of limits t
same_heads limits larger t no_less input h = by (one_stop t (first_above limits.header (take (head_len t) t)))
  where
    sizes : nat_lt limits.header (size_of t) ≡ false → nat_lt larger.header (size_of t) ≡ false
    sizes e = let l = no_less.header in grind (arith, nat_tests)

    same : (s : Bool) (o : Option ℕ) (x z y : Bool) → (x ≡ false → z ≡ false) → IsNotLong (heads_by t (earliest_of t s o x y)) → earliest_of t s o z y ≡ earliest_of t s o x y
    same true (Some k) x z y l n = refl
    same true None true z y l n = absurd (never_long t _ _ n)
    same true None false z y l n = ap (λ (b : Bool). earliest_of t true None b y) (l refl)
    same false (Some k) x z y l n = refl
    same false None x z y l n = refl

    by : IsOneStop (text_stops limits.header t) → heads_of larger t ≡ heads_of limits t
    by (inr (p, place, e)) = absurd (never_long t p place (λ stop k. h stop (heads_long limits t p place e ∙ k)))
    by (inl e) =
        let own = heads_are limits t e in
        heads_are larger t (text_not_long limits.header larger.header t no_less.header e)
        ∙ ap (λ (n : ℕ). heads_by t (earliest_of t (has_score (lines t)) (open_line (head_parts t)) (nat_lt larger.header (size_of t)) (nat_lt n (size_of t + 3)))) (sym input)
        ∙ ap (heads_by t) (same (has_score (lines t)) (open_line (head_parts t)) (nat_lt limits.header (size_of t)) (nat_lt larger.header (size_of t)) (nat_lt limits.input (size_of t + 3)) sizes (λ stop k. h stop (own ∙ k)))
        ∙ sym own

-- ---- not at the end

-- a stop is too long, and then not at the end
abbrev IsInside : List ℕ → Option Stop → Type 0
IsInside t o = (stop : HeadFault) → heads_by t o ≡ Err stop → is_too_long stop.fault.code ≡ true → stop.at_end ≡ false

-- an error has one fault
pub same_fault : (a b : HeadFault) → ◌≡◌ {A = Result Heads HeadFault} (Err a) (Err b) → a ≡ b
same_fault a b e = cc

-- a stop in front of the end
inside_before : (t : List ℕ) (s : Stop) → s.point < length t → IsInside t (Some s)
inside_before t s l stop e long = sym (ap (λ (f : HeadFault). f.at_end) (same_fault _ stop e)) ∙ below_eqb s.point (length t) l

-- a stop that is not too long
inside_other : (t : List ℕ) (s : Stop) → is_too_long s.fault.code ≡ false → IsInside t (Some s)
inside_other t s n stop e long = absurd (let k = ap (λ (f : HeadFault). is_too_long f.fault.code) (same_fault _ stop e) in cc)

-- headers that are too long are stopped in front of the end
pub long_inside : (limits : Limits) (t : List ℕ) (stop : HeadFault) → heads_of limits t ≡ Err stop → is_too_long stop.fault.code ≡ true → stop.at_end ≡ false
long_inside limits t = by (one_stop t (first_above limits.header (take (head_len t) t)))
  where
    ended : (s : Bool) (o : Option ℕ) (x y : Bool) → (s ≡ true → head_len t + 2 ≤ length t) → IsInside t (earliest_of t s o x y)
    ended true (Some k) x y w = inside_other t _ refl
    ended true None true y w = inside_before t _ (let l = w refl in omega arith)
    ended true None false true w = inside_other t _ refl
    ended true None false false w = λ stop e long. absurd (cc)
    ended false (Some k) x y w = inside_other t _ refl
    ended false None x y w = inside_other t _ refl

    by : IsOneStop (text_stops limits.header t) → (stop : HeadFault) → heads_of limits t ≡ Err stop → is_too_long stop.fault.code ≡ true → stop.at_end ≡ false
    by (inr (p, place, e)) stop k long = inside_before t (stop_at p place F4) (limit_within limits.header t p place e).0 stop (sym (heads_long limits t p place e) ∙ k) long
    by (inl e) stop k long = ended (has_score (lines t)) (open_line (head_parts t)) (nat_lt limits.header (size_of t)) (nat_lt limits.input (size_of t + 3)) (λ s. score_within t s) stop (sym (heads_are limits t e) ∙ k) long
