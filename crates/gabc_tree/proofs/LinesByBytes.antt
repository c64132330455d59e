-- The places of marks in a line of the headers, found a byte at a time.
use Rattle.std.proofs.Common.{if◌then◌else◌, ◌≡◌, ℕ, zero, suc, ◌+◌, ◌-◌, ◌<◌, ◌≤◌, ◌==◌, nat_lt, nat_le, List, [], ◌∷◌, Bool, true, false, ◌&&◌, ◌||◌, cond, Option, Some, None, refl, sym, ap, ◌∙◌, length, length-drop, take, drop, slice_index, IfSome, subst, arith}
use Rattle.std.specs.Option.{option_map}
use Rattle.std.proofs.lemmas.Bool.{leb-true, leb-false}
use Rattle.std.proofs.Math.Seq.{take-length}
use Rattle.std.proofs.Math.ListN.{drop_of_length-le}
use Rattle.gabc_headers.specs.Lines.{is_bare, is_mark, has_mark, before_mark, has_colon, before_colon, after_colon, trim_end}
use Rattle.gabc_tree.specs.HeaderLines.{semicolons}
use Rattle.gabc_tree.specs.machine.HeaderLines.{run_with, bare_with, first_mark, first_colon, row_of}

-- a place that is so much further
abbrev pub moved : ℕ → Option ℕ → Option ℕ
moved n o = option_map (λ k. n + k) o

-- the byte at a place, and what follows it
pub at_drop : (xs : List ℕ) (i : ℕ) → i < length xs → drop i xs ≡ slice_index xs i ∷ drop (i + 1) xs
at_drop [] i h = absurd (omega arith)
at_drop (x ∷ xs) zero h = refl
at_drop (x ∷ xs) (suc i) h = grind (arith, at_drop xs i)

pub moved_on : (n : ℕ) (o : Option ℕ) → moved n (moved 1 o) ≡ moved (n + 1) o
moved_on n o = grind arith

-- ---- the first mark

-- how many `;` the line begins with, if a mark ends there
abbrev pub mark_len : List ℕ → ℕ
mark_len [] = 0
mark_len (c ∷ l) = if (c == 59) && (is_bare l || nat_lt 0 (mark_len l)) then mark_len l + 1 else 0

bare_none : (l : List ℕ) → is_bare l ≡ true → mark_len l ≡ 0
bare_none [] e = refl
bare_none (c ∷ l) e = grind arith

pub mark_is : (n : ℕ) (l : List ℕ) → is_mark n l ≡ (nat_le n (mark_len l) && nat_lt 0 (mark_len l))
mark_is n [] = grind arith
mark_is n (c ∷ l) = grind (arith, bare_none, mark_is (n - 1) l)

pub mark_here : (n c : ℕ) (l : List ℕ) → 1 ≤ n → n ≤ mark_len (c ∷ l) → first_mark n (c ∷ l) ≡ Some 0
mark_here n c l h m =
    let is : is_mark n (c ∷ l) ≡ true = mark_is n (c ∷ l) ∙ grind arith in
    here (is_mark n (c ∷ l)) is
  where
    here : (b : Bool) → b ≡ true → (if b || has_mark n l then Some (length (cond b [] (c ∷ before_mark n l))) else None) ≡ Some 0
    here b e = grind arith

pub mark_later : (n c : ℕ) (l : List ℕ) → 1 ≤ n → mark_len (c ∷ l) < n → first_mark n (c ∷ l) ≡ moved 1 (first_mark n l)
mark_later n c l h m =
    let is : is_mark n (c ∷ l) ≡ false = mark_is n (c ∷ l) ∙ grind arith in
    later (is_mark n (c ∷ l)) is
  where
    later : (b : Bool) → b ≡ false → (if b || has_mark n l then Some (length (cond b [] (c ∷ before_mark n l))) else None) ≡ moved 1 (first_mark n l)
    later b e = grind arith

-- what is found of the marks from the byte `at` on
pub record Marks (row : List ℕ) (least at : ℕ) (found : Option ℕ) (bare : Bool) (run : ℕ) : Type 0 where
  pub bare_is : bare ≡ is_bare (drop at row)
  pub run_is : run ≡ mark_len (drop at row)
  pub few : run + at ≤ length row
  pub found_is : found ≡ moved at (first_mark least (drop at row))

pub marks_back : (row : List ℕ) (least at i : ℕ) (found next : Option ℕ) (bare : Bool) (run : ℕ) → at ≡ i + 1 → i < length row → 1 ≤ least → Marks row least at found bare run
    → (least ≤ run_with (slice_index row i) bare run → next ≡ Some i) → (run_with (slice_index row i) bare run < least → next ≡ found)
    → Marks row least i next (bare_with (slice_index row i) bare) (run_with (slice_index row i) bare run)
marks_back row least at i found next bare run e h l m some none =
    let c : ℕ = slice_index row i in
    let front : drop i row ≡ c ∷ drop (i + 1) row = at_drop row i h in
    let bare_on : bare ≡ is_bare (drop (i + 1) row) = m.bare_is ∙ ap (λ (n : ℕ). is_bare (drop n row)) e in
    let run_on : run ≡ mark_len (drop (i + 1) row) = m.run_is ∙ ap (λ (n : ℕ). mark_len (drop n row)) e in
    let found_on : found ≡ moved (i + 1) (first_mark least (drop (i + 1) row)) = m.found_is ∙ ap (λ (n : ℕ). moved n (first_mark least (drop n row))) e in
    let bare_now : bare_with c bare ≡ is_bare (drop i row) = ap (bare_with c) bare_on ∙ sym (ap is_bare front) in
    let run_now : run_with c bare run ≡ mark_len (drop i row) = ap (λ (b : Bool). run_with c b run) bare_on ∙ ap (run_with c (is_bare (drop (i + 1) row))) run_on ∙ sym (ap mark_len front) in
    record {
      bare_is = bare_now;
      run_is = run_now;
      few = small (few_by c bare run) m.few e;
      found_is = found_by (nat_le least (run_with c bare run)) refl run_now found_on front;
    }
  where
    few_by : (c : ℕ) (bare : Bool) (run : ℕ) → run_with c bare run ≤ run + 1
    few_by c bare run = grind arith

    small : {m : ℕ} → m ≤ run + 1 → run + at ≤ length row → at ≡ i + 1 → m + i ≤ length row
    small f g e = omega arith

    found_by : (b : Bool) → nat_le least (run_with (slice_index row i) bare run) ≡ b → run_with (slice_index row i) bare run ≡ mark_len (drop i row)
        → found ≡ moved (i + 1) (first_mark least (drop (i + 1) row)) → drop i row ≡ slice_index row i ∷ drop (i + 1) row → next ≡ moved i (first_mark least (drop i row))
    found_by true t now on front =
        let much : least ≤ run_with (slice_index row i) bare run = leb-true least _ t in
        let here : first_mark least (drop i row) ≡ Some 0 = ap (first_mark least) front ∙ mark_here least (slice_index row i) (drop (i + 1) row) l (omega (arith, now, ap mark_len front)) in
        some much ∙ sym (ap (moved i) here ∙ (let z : i + 0 ≡ i = omega arith in ap (λ (n : ℕ). Some n) z))
    found_by false t now on front =
        let few : run_with (slice_index row i) bare run < least = leb-false least _ t in
        let there : first_mark least (drop i row) ≡ moved 1 (first_mark least (drop (i + 1) row)) =
        ap (first_mark least) front ∙ mark_later least (slice_index row i) (drop (i + 1) row) l (omega (arith, now, ap mark_len front)) in
        none few ∙ on ∙ sym (ap (moved i) there ∙ moved_on i (first_mark least (drop (i + 1) row)))

-- ---- what is left of a part

-- of `i` bytes the first `len` are left, and of those after them so many
abbrev pub longest : ℕ → ℕ → ℕ → ℕ
longest i len zero = len
longest i len (suc n) = i + suc n

pub kept_front : (out : ℕ → Bool) (l : List ℕ) → trim_end out l ≡ take (length (trim_end out l)) l
kept_front out [] = refl
kept_front out (c ∷ l) = grind (arith, kept_front out l)

pub kept_within : (out : ℕ → Bool) (l : List ℕ) → length (trim_end out l) ≤ length l
kept_within out [] = omega arith
kept_within out (c ∷ l) = grind (arith, kept_within out l)

pub kept_all : (out : ℕ → Bool) (part : List ℕ) (at len : ℕ) → length (trim_end out part) ≡ longest at len (length (trim_end out (drop at part))) → length part ≤ at → take len part ≡ trim_end out part
kept_all out part at len e h =
    let none : drop at part ≡ [] = drop_of_length-le part h in
    let same : length (trim_end out part) ≡ len = e ∙ ap (λ (s : List ℕ). longest at len (length (trim_end out s))) none in
    sym (kept_front out part ∙ ap (λ (n : ℕ). take n part) same)

-- ---- the parts of a line

pub before_is : (l : List ℕ) → has_colon l ≡ true → take (length (before_colon l)) l ≡ before_colon l
before_is [] h = refl
before_is (c ∷ l) h = grind (arith, before_is l)

pub after_is : (l : List ℕ) → has_colon l ≡ true → drop (length (before_colon l) + 1) l ≡ after_colon l
after_is [] h = absurd (cc)
after_is (c ∷ l) h = grind (arith, after_is l)

pub colon_within : (l : List ℕ) → has_colon l ≡ true → length (before_colon l) < length l
colon_within [] h = absurd (cc)
colon_within (c ∷ l) h = grind (arith, colon_within l)

pub mark_within : (n : ℕ) (l : List ℕ) → has_mark n l ≡ true → length (before_mark n l) < length l
mark_within n [] h = absurd (cc)
mark_within n (c ∷ l) h = grind (arith, mark_within n l)

pub semicolons_within : (l : List ℕ) → semicolons l ≤ length l
semicolons_within [] = omega arith
semicolons_within (c ∷ l) = grind (arith, semicolons_within l)

pub colon_at : (l : List ℕ) (n : ℕ) → first_colon l ≡ Some n → (has_colon l ≡ true) × (length (before_colon l) ≡ n)
colon_at l n e = grind arith

pub mark_at : (n : ℕ) (l : List ℕ) (k : ℕ) → first_mark n l ≡ Some k → (has_mark n l ≡ true) × (length (before_mark n l) ≡ k)
mark_at n l k e = grind arith

pub mark_none : (n : ℕ) (l : List ℕ) → first_mark n l ≡ None → has_mark n l ≡ false
mark_none n l e = grind arith

pub mark_inside : (n : ℕ) (l : List ℕ) → IfSome (first_mark n l) (λ k. k < length l)
mark_inside n l = by (has_mark n l) refl
  where
    by : (b : Bool) → has_mark n l ≡ b → IfSome (if b then Some (length (before_mark n l)) else None) (λ k. k < length l)
    by true e = mark_within n l e
    by false e = tt

-- the first line of a text
pub row_front : (t : List ℕ) → row_of t ≡ take (length (row_of t)) t
row_front [] = refl
row_front (c ∷ t) = grind (arith, row_front t)

pub row_within : (t : List ℕ) → length (row_of t) ≤ length t
row_within [] = omega arith
row_within (c ∷ t) = grind (arith, row_within t)

pub row_all : (t : List ℕ) (at : ℕ) → length (row_of t) ≡ at + length (row_of (drop at t)) → length (row_of (drop at t)) ≡ 0 → take at t ≡ row_of t
row_all t at e h =
    let n : at ≡ length (row_of t) = omega (arith, e, h) in
    ap (λ (k : ℕ). take k t) n ∙ sym (row_front t)

pub row_whole : (t : List ℕ) (at : ℕ) → length (row_of t) ≡ at + length (row_of (drop at t)) → length t ≤ at → t ≡ row_of t
row_whole t at e h =
    let n : length (row_of t) ≡ length t = omega (arith, e, row_within t) in
    sym (row_front t ∙ ap (λ (k : ℕ). take k t) n ∙ take-length t)

pub marks_all : (row : List ℕ) (least at : ℕ) (found : Option ℕ) (bare : Bool) (run : ℕ) → Marks row least at found bare run → at ≤ 0 → IfSome found (λ k. k < length row)
marks_all row least at found bare run m h =
    let z : at ≡ 0 = omega arith in
    let same : found ≡ first_mark least row = m.found_is ∙ ap (λ (n : ℕ). moved n (first_mark least (drop n row))) z ∙ here (first_mark least row) in
    subst (λ (o : Option ℕ). IfSome o (λ k. k < length row)) (sym same) (mark_inside least row)
  where
    here : (o : Option ℕ) → moved 0 o ≡ o
    here o = grind arith

-- what stands from a byte on
pub rest_of : (l : List ℕ) (n : ℕ) → take (length l - n) (drop n l) ≡ drop n l
rest_of l n =
    let e : length l - n ≡ length (drop n l) = omega (arith, length-drop n l) in
    ap (λ (k : ℕ). take k (drop n l)) e ∙ take-length (drop n l)
