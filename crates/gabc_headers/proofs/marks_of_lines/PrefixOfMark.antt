-- What a line's start says of its first mark, whatever follows.
use Rattle.std.proofs.Common.{◌≡◌, ℕ, ◌+◌, ◌-◌, ◌≤◌, suc, zero, List, [], ◌∷◌, ◌++◌, length, Bool, true, false, ◌||◌, ◌&&◌, ◌==◌, ◌≢◌, nat_le, refl, ap, arith, append_assoc, append-nil, length-append}
use Rattle.std.proofs.lemmas.Bool.Decides.{nat_tests}
use Rattle.std.proofs.lemmas.Bool.{and_parts}
use Rattle.std.proofs.Math.Bool.{and-false, or-true}
use Rattle.gabc_headers.specs.Lines.{mark_end, run_len, is_blank, is_bare, is_mark, has_mark, before_mark}
use Rattle.gabc_headers.proofs.machines.TrimAsLoop.{all_out}

-- n times `;`
abbrev pub semis : ℕ → List ℕ
semis zero = []
semis (suc n) = 59 ∷ semis n

-- whether all are blanks
abbrev pub all_blank : List ℕ → Bool
all_blank l = all_out is_blank l

-- the first mark of p ++ l lies in l, whatever l is
pub record Passed (m : ℕ) (p l : List ℕ) : Type 0 where
  pub has : has_mark m (p ++ l) ≡ has_mark m l
  pub before : before_mark m (p ++ l) ≡ p ++ before_mark m l
  pub end : mark_end m (p ++ l) ≡ length p + mark_end m l

-- the first mark of p ++ l begins after p
pub record Marked (m : ℕ) (p l : List ℕ) : Type 0 where
  pub has : has_mark m (p ++ l) ≡ true
  pub before : before_mark m (p ++ l) ≡ p
  pub end : mark_end m (p ++ l) ≡ length p + run_len l

-- nothing is passed
pub pass_none : (m : ℕ) (l : List ℕ) → Passed m [] l
pass_none m l = record { has = refl; before = refl; end = omega arith }

-- one character passed
pub pass_one : (m c : ℕ) (l : List ℕ) → is_mark m (c ∷ l) ≡ false → Passed m (c ∷ []) l
pass_one m c l h = record { has = rw (h) refl; before = rw (h) refl; end = rw (h) (omega arith) }

-- two prefixes passed after each other
pub pass_more : (m : ℕ) (p q l : List ℕ) → Passed m p (q ++ l) → Passed m q l → Passed m (p ++ q) l
pass_more m p q l a b = grind (arith, append_assoc, length-append)

-- a mark that begins after what is passed
pub mark_here : (m : ℕ) (p l : List ℕ) → Passed m p l → is_mark m l ≡ true → Marked m p l
mark_here m p [] a h = absurd (cc)
mark_here m p (c ∷ l) a h = grind (arith, append-nil)

-- ---- runs and blanks

-- one more `;` at the end of a run
pub semis_more : (n : ℕ) (l : List ℕ) → semis n ++ 59 ∷ l ≡ semis (suc n) ++ l
semis_more zero l = refl
semis_more (suc n) l = ap (λ (x : List ℕ). 59 ∷ x) (semis_more n l)

-- a blank is no `%` and no `;`
by_blank : (x y : Bool) (c d : ℕ) → (c == 32) ≡ x → (c == 9) ≡ y → (x || y) ≡ true → d ≢ 32 → d ≢ 9 → (c == d) ≡ false
by_blank x y c d e f h n m = grind arith

-- a blank is no other character
pub blank_not : (c d : ℕ) → is_blank c ≡ true → d ≢ 32 → d ≢ 9 → (c == d) ≡ false
blank_not c d h n m = by_blank (c == 32) (c == 9) c d refl refl h n m

-- one more blank
pub blanks_push : (b : List ℕ) (c : ℕ) → all_blank b ≡ true → is_blank c ≡ true → all_blank (b ++ c ∷ []) ≡ true
blanks_push [] c h e = rw (e) refl
blanks_push (d ∷ b) c h e = let g = and_parts (is_blank d) (all_blank b) h in rw (g.0) (blanks_push b c g.1 e)

-- blanks in front change nothing of what is bare
pub bare_blanks : (b l : List ℕ) → all_blank b ≡ true → is_bare (b ++ l) ≡ is_bare l
bare_blanks [] l h = refl
bare_blanks (c ∷ b) l h =
    let g = and_parts (is_blank c) (all_blank b) h in
    rw (blank_not c 37 g.0 (omega arith) (omega arith), g.0) (bare_blanks b l g.1)

-- after a run of `;` neither the line's end nor a `;`
pub semis_dead : (m n c : ℕ) (l : List ℕ) → is_bare (c ∷ l) ≡ false → (c == 59) ≡ false → is_mark m (semis n ++ c ∷ l) ≡ false
semis_dead m zero c l b s = rw (s) refl
semis_dead m (suc zero) c l b s = rw (b, s, and-false (nat_le m 1)) refl
semis_dead m (suc (suc n)) c l b s = rw (semis_dead (m - 1) (suc n) c l b s, and-false (nat_le m 1)) refl

-- a run of `;` that something else follows is passed
pub pass_semis : (m n c : ℕ) (l : List ℕ) → is_bare (c ∷ l) ≡ false → (c == 59) ≡ false → Passed m (semis n) (c ∷ l)
pass_semis m zero c l b s = pass_none m (c ∷ l)
pass_semis m (suc n) c l b s = pass_more m (59 ∷ []) (semis n) (c ∷ l) (pass_one m 59 (semis n ++ c ∷ l) (semis_dead m (suc n) c l b s)) (pass_semis m n c l b s)

-- blanks are passed
pub pass_blanks : (m : ℕ) (b l : List ℕ) → all_blank b ≡ true → Passed m b l
pass_blanks m [] l h = pass_none m l
pass_blanks m (c ∷ b) l h =
    let g = and_parts (is_blank c) (all_blank b) h in
    pass_more m (c ∷ []) b l (pass_one m c (b ++ l) (rw (blank_not c 59 g.0 (omega arith) (omega arith)) refl)) (pass_blanks m b l g.1)

-- enough `;`, and then what is bare
pub semis_mark : (m n : ℕ) (l : List ℕ) → m ≤ n → 1 ≤ n → is_bare l ≡ true → is_mark m (semis n ++ l) ≡ true
semis_mark m zero l h i b = absurd (omega arith)
semis_mark m (suc zero) l h i b = let e : nat_le m 1 ≡ true = grind (arith, nat_tests) in rw (e, b) refl
semis_mark m (suc (suc n)) l h i b = let le : m - 1 ≤ suc n = omega arith in rw (semis_mark (m - 1) (suc n) l le (omega arith) b) (or-true (nat_le m 1 && false))

-- a run of `;` and what follows
pub run_semis : (n : ℕ) (l : List ℕ) → run_len (semis n ++ l) ≡ n + run_len l
run_semis zero l = omega arith
run_semis (suc n) l = let h = run_semis n l in omega arith

-- blanks and what follows
pub run_blanks : (b l : List ℕ) → all_blank b ≡ true → run_len (b ++ l) ≡ length b + run_len l
run_blanks [] l h = omega arith
run_blanks (c ∷ b) l h =
    let g = and_parts (is_blank c) (all_blank b) h in
    rw (blank_not c 59 g.0 (omega arith) (omega arith), g.0) (let k = run_blanks b l g.1 in omega arith)
