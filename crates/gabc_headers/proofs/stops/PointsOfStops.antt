-- The points at which the headers stop.
use Rattle.std.proofs.Common.{◌≡◌, ℕ, ◌+◌, ◌-◌, ◌<◌, ◌≤◌, suc, List, [], ◌∷◌, ◌++◌, Bool, true, false, cond, refl, ap, arith, nat_lt, length, length-take, Option, Some, None}
use Rattle.std.specs.Option.{option_map}
use Rattle.std.specs.Char.{len_utf8}
use Rattle.std.proofs.lemmas.Bool.{le-ltb, and_parts}
use Rattle.gabc_places.proofs.NumbersByTests.{above_eqb, same_eqb, same_ltb}
use Rattle.gabc_places.specs.declared.place.Place.{Place}
use Rattle.gabc_places.specs.declared.code.Code.TheVariants.{F3, F4, F7}
use Rattle.gabc_places.specs.Findings.{Stop, earliest}
use Rattle.gabc_headers.specs.Lines.{lines, lines_len, head_of, has_score, is_score_line}
use Rattle.gabc_headers.specs.Heads.{head_len, stop_at, first_above, text_stops}

-- ---- the lines of a text

-- the lines have the text's characters and one LF more
pub lines_all : (t : List ℕ) → lines_len (lines t) ≡ length t + 1
lines_all [] = refl
lines_all (c ∷ t) = grind (arith, lines_all t)

score_line_len : (l : List ℕ) → is_score_line l ≡ true → 2 ≤ length l
score_line_len l h = grind (arith, and_parts)

score_len : (ls : List (List ℕ)) → has_score ls ≡ true → lines_len (head_of ls) + 3 ≤ lines_len ls
score_len [] h = absurd (cc)
score_len (l ∷ ls) h = grind (arith, score_len ls, score_line_len)

-- the line `%%` has two characters
pub score_within : (t : List ℕ) → has_score (lines t) ≡ true → head_len t + 2 ≤ length t
score_within t h = grind (arith, score_len, lines_all)

-- ---- which stop is the earliest

-- an open value goes before the sizes
pub open_first : (p : ℕ) (a b : Place) (x y : Bool)
    → earliest (stop_at p a F3 ∷ (cond x (stop_at p b F4 ∷ []) [] ++ cond y (stop_at p b F7 ∷ []) [])) ≡ Some (stop_at p a F3)
open_first p a b x y = grind (arith, same_ltb, same_eqb)

-- the headers' limit goes before the input's
pub size_first : (p : ℕ) (b : Place) (y : Bool) → earliest (stop_at p b F4 ∷ cond y (stop_at p b F7 ∷ []) []) ≡ Some (stop_at p b F4)
size_first p b y = grind (arith, same_ltb, same_eqb)

-- stops after a point
abbrev pub AllAfter : ℕ → List Stop → Type 0
AllAfter p [] = Unit {0}
AllAfter p (s ∷ ss) = (p < s.point) × AllAfter p ss

abbrev IsAfterHeaders : ℕ → Option Stop → Type 0
IsAfterHeaders p None = Unit {0}
IsAfterHeaders p (Some s) = p < s.point

one_of : (p : ℕ) (b : Bool) (s r : Stop) → p < s.point → p < r.point → p < (cond b r s).point
one_of p b s r h k = grind arith

after_earliest : (p : ℕ) (ss : List Stop) → AllAfter p ss → IsAfterHeaders p (earliest ss)
after_earliest p [] h = tt
after_earliest p (s ∷ ss) h = grind (arith, after_earliest p ss h.1, one_of)

-- a stop before all others is the earliest
pub first_earliest : (s : Stop) (ss : List Stop) → AllAfter s.point ss → earliest (s ∷ ss) ≡ Some s
first_earliest s ss h = grind (arith, after_earliest, le-ltb, above_eqb)

pub after-append : (p : ℕ) (ss rs : List Stop) → AllAfter p ss → AllAfter p rs → AllAfter p (ss ++ rs)
after-append p [] rs h k = k
after-append p (s ∷ ss) rs h k = (h.0, after-append p ss rs h.1 k)

-- ---- the limit

pub above_within : (limit : ℕ) (t : List ℕ) (i : ℕ) → first_above limit t ≡ Some i → i < length t
above_within limit [] i h = absurd (cc)
above_within limit (c ∷ t) i h = by (nat_lt limit (len_utf8 c)) h (first_above (limit - len_utf8 c) t) refl (λ n. above_within (limit - len_utf8 c) t n)
  where
    by : (b : Bool) → cond b (Some 0) (option_map (λ (n : ℕ). n + 1) (first_above (limit - len_utf8 c) t)) ≡ Some i → (o : Option ℕ) → first_above (limit - len_utf8 c) t ≡ o → ((n : ℕ) → first_above (limit - len_utf8 c) t ≡ Some n → n < length t) → i < suc (length t)
    by true h o e r = let z : 0 ≡ i = cc in omega arith
    by false h None e r = absurd (let k = ap (λ (x : Option ℕ). option_map (λ (n : ℕ). n + 1) x) e in cc)
    by false h (Some n) e r =
        let k = ap (λ (x : Option ℕ). option_map (λ (n : ℕ). n + 1) x) e in
        let z : n + 1 ≡ i = cc in
        let l = r n e in omega arith

-- where the text is too long, it goes on, and the line `%%` is not reached
pub limit_within : (limit : ℕ) (t : List ℕ) (p : ℕ) (place : Place) → text_stops limit t ≡ stop_at p place F4 ∷ [] → (p < length t) × (p ≤ head_len t)
limit_within limit t p place h = grind (arith, above_within, length-take)
