-- Whether a value wants lines of its own, from left to right.
use Rattle.std.proofs.Common.{rules, ◌≢◌, ◌≡◌, ◌⊎◌, ℕ, List, [], ◌∷◌, ◌++◌, Bool, true, false, ◌||◌, ◌&&◌, ◌==◌, refl, sym, ap, ◌∙◌, append_assoc, append-nil, arith}
use Rattle.std.proofs.Math.Bool.{or-true, and-false, or-false, and-true, or_assoc, or_self}
use Rattle.std.proofs.lemmas.Bool.{or_parts}
use Rattle.gabc_headers.specs.Lines.{lines, on_first, is_bare, is_mark, has_mark}
use Rattle.gabc_headers.specs.Canonical.{wants_lines}

-- whether the rest of a value has an LF, or the line has a mark; `marked` says that a `;` and blanks stand before the rest
abbrev pub has_lf : List ℕ → Bool
has_lf [] = false
has_lf (c ∷ v) = (c == 10) || has_lf v

abbrev pub wants_from : Bool → List ℕ → Bool
wants_from marked v = has_lf v || ((marked && is_bare v) || has_mark 1 v)

-- there are several lines
abbrev several : List (List ℕ) → Bool
several (l ∷ m ∷ ls) = true
several _ = false

several_wants : (ls : List (List ℕ)) → several ls ≡ true → wants_lines ls ≡ true
several_wants ls h = grind arith

abbrev is_some_line : List (List ℕ) → Bool
is_some_line [] = false
is_some_line (l ∷ ls) = true

lines_some : (v : List ℕ) → is_some_line (lines v) ≡ true
lines_some [] = refl
lines_some (c ∷ v) = grind arith

one_more : (ls : List (List ℕ)) → is_some_line ls ≡ true → several ([] ∷ ls) ≡ true
one_more ls h = grind arith

on_several : (c : ℕ) (ls : List (List ℕ)) → several ls ≡ true → several (on_first c ls) ≡ true
on_several c ls h = grind arith

-- an LF makes several lines
lf_several : (v : List ℕ) → has_lf v ≡ true → several (lines v) ≡ true
lf_several [] h = absurd (cc)
lf_several (c ∷ v) h = grind (arith, lf_several v, one_more, lines_some, on_several)

-- without an LF there is one line
one_line : (v : List ℕ) → has_lf v ≡ false → lines v ≡ v ∷ []
one_line [] h = refl
one_line (c ∷ v) h = let o = or_parts (c == 10) (has_lf v) h in rw (o.0, one_line v o.1) refl

pub wants_start : (v : List ℕ) → wants_lines (lines v) ≡ wants_from false v
wants_start v = grind (arith, several_wants, lf_several, one_line)

pub step_lf : (w m : Bool) (v : List ℕ) → (w || wants_from m (10 ∷ v)) ≡ true
step_lf w m v = or-true w

twice : (v : List ℕ) → (is_mark 0 v || has_mark 1 v) ≡ has_mark 1 v
twice [] = refl
twice (c ∷ v) = sym (or_assoc (is_mark 1 (c ∷ v)) (is_mark 1 (c ∷ v)) (has_mark 1 v)) ∙ ap (λ (b : Bool). b || has_mark 1 v) (or_self (is_mark 1 (c ∷ v)))

pub step_semicolon : (m : Bool) (v : List ℕ) → wants_from m (59 ∷ v) ≡ wants_from true v
step_semicolon m v = grind (arith, twice)

pub step_percent : (w m : Bool) (v : List ℕ) → (w || wants_from m (37 ∷ v)) ≡ ((w || m) || wants_from m v)
step_percent w m v = grind (arith, or-true)

pub step_space : (m : Bool) (v : List ℕ) → wants_from m (32 ∷ v) ≡ wants_from m v
step_space m v = grind arith

pub step_tab : (m : Bool) (v : List ℕ) → wants_from m (9 ∷ v) ≡ wants_from m v
step_tab m v = grind arith

pub step_other : (m : Bool) (c : ℕ) (v : List ℕ) → (c == 10) ≡ false → (c == 59) ≡ false → (c == 37) ≡ false → (c == 32) ≡ false → (c == 9) ≡ false → wants_from m (c ∷ v) ≡ wants_from false v
step_other m c v a b d e f = rw (a, b, d, e, f, and-false m) refl

-- the same as steps of what is known
pub after_semicolon : (ys rest : List ℕ) (c : ℕ) (w m : Bool) → c ≡ 59 → ((r : List ℕ) → wants_lines (lines (ys ++ r)) ≡ (w || wants_from m r))
    → wants_lines (lines ((ys ++ c ∷ []) ++ rest)) ≡ (w || wants_from true rest)
after_semicolon ys rest c w m e h = grind (arith, append_assoc, step_semicolon)

pub after_blank : (ys rest : List ℕ) (c : ℕ) (w m : Bool) → (c ≡ 9) ⊎ (c ≡ 32) → ((r : List ℕ) → wants_lines (lines (ys ++ r)) ≡ (w || wants_from m r))
    → wants_lines (lines ((ys ++ c ∷ []) ++ rest)) ≡ (w || wants_from m rest)
after_blank ys rest c w m e h = grind (arith, append_assoc, step_tab, step_space)

pub after_percent : (ys rest : List ℕ) (c : ℕ) (w m : Bool) → c ≡ 37 → ((r : List ℕ) → wants_lines (lines (ys ++ r)) ≡ (w || wants_from m r))
    → wants_lines (lines ((ys ++ c ∷ []) ++ rest)) ≡ ((w || m) || wants_from m rest)
after_percent ys rest c w m e h = grind (arith, append_assoc, step_percent)

pub after_lf : (ys rest : List ℕ) (c : ℕ) (w m : Bool) → c ≡ 10 → ((r : List ℕ) → wants_lines (lines (ys ++ r)) ≡ (w || wants_from m r))
    → wants_lines (lines ((ys ++ c ∷ []) ++ rest)) ≡ true
after_lf ys rest c w m e h = grind (arith, append_assoc, step_lf)

pub after_other : (ys rest : List ℕ) (c : ℕ) (w m : Bool) → c ≢ 10 → c ≢ 59 → c ≢ 37 → c ≢ 32 → c ≢ 9
    → ((r : List ℕ) → wants_lines (lines (ys ++ r)) ≡ (w || wants_from m r))
    → wants_lines (lines ((ys ++ c ∷ []) ++ rest)) ≡ (w || wants_from false rest)
after_other ys rest c w m i j k n o h =
    ap (λ (x : List ℕ). wants_lines (lines x)) (append_assoc ys (c ∷ []) rest)
    ∙ (h (c ∷ rest) ∙ ap (λ (x : Bool). w || x) (step_other m c rest (search rules) (search rules) (search rules) (search rules) (search rules)))

-- at the end
pub at_end : (v ys : List ℕ) (w m : Bool) → v ≡ ys → ((r : List ℕ) → wants_lines (lines (ys ++ r)) ≡ (w || wants_from m r)) → wants_lines (lines v) ≡ (w || m)
at_end v ys w m e h = ap (λ (x : List ℕ). wants_lines (lines x)) (e ∙ sym (append-nil ys)) ∙ (h [] ∙ ap (λ (x : Bool). w || x) (or-false (m && true) ∙ and-true m))
