-- Texts of several lines in which no mark of two or more `;` begins, and none of whose later lines begins with `%%`.
use Rattle.std.proofs.Common.{◌≡◌, ℕ, ◌-◌, ◌==◌, List, [], ◌∷◌, ◌++◌, Bool, true, false, cond, ◌||◌, ◌&&◌, ◌⊎◌, inl, inr, refl, sym, ap, subst, ◌∙◌, append_assoc, append-nil, arith}
use Rattle.std.proofs.lemmas.Bool.{or_parts}
use Rattle.std.proofs.Math.Bool.{and-false}
use Rattle.gabc_headers.specs.Lines.{lines, is_blank, is_bare, is_mark, has_mark, before_mark, ends_no_value, is_score_line}
use Rattle.gabc_headers.specs.Groups.{HaveNoMark}
use Rattle.gabc_headers.proofs.machines.PartsAfterState.{first_line, later_lines, lines_split}
use Rattle.gabc_headers.proofs.marks_of_lines.PrefixOfMark.{Passed, pass_none, pass_one, pass_more}
use Rattle.gabc_headers.proofs.printing.LinesOfTexts.{has}
use Rattle.gabc_headers.proofs.printing.TrimmedTexts.{EndsWell}
use Rattle.gabc_headers.proofs.groups.TextBeforeScore.{score_first}

-- a character that no value ends with is no blank, no LF and no `;`
pub record IsEnd (c : ℕ) : Type 0 where
  pub blank : is_blank c ≡ false
  pub feed : (c == 10) ≡ false
  pub semi : (c == 59) ≡ false

pub end_is : (c : ℕ) → ends_no_value c ≡ false → IsEnd c
end_is c h = grind (arith, or_parts)

-- ---- a mark after what ends well

ends_onward : (c : ℕ) (w : List ℕ) → EndsWell ends_no_value (c ∷ w) → EndsWell ends_no_value w
ends_onward c w h = grind arith

module _ (s : List ℕ) where
  bare_more : (c : ℕ) (w : List ℕ) → EndsWell ends_no_value (c ∷ w) → is_bare (c ∷ (w ++ s)) ≡ is_bare (c ∷ w)
  bare_more c [] h = ap (λ (b : Bool). (c == 37) || (b && is_bare s)) (end_is c h).blank ∙ sym (ap (λ (b : Bool). (c == 37) || (b && true)) (end_is c h).blank)
  bare_more c (d ∷ w) h = ap (λ (b : Bool). (c == 37) || (is_blank c && b)) (bare_more d w h)

  pub mark_more : (n c : ℕ) (w : List ℕ) → EndsWell ends_no_value (c ∷ w) → is_mark n (c ∷ (w ++ s)) ≡ is_mark n (c ∷ w)
  mark_more n c [] h = grind (arith, end_is)
  mark_more n c (d ∷ w) h = grind (arith, mark_more (n - 1) d w h, bare_more)

  -- no mark begins in such a text that has none by itself
  pub marks_passed : (n : ℕ) (w : List ℕ) → EndsWell ends_no_value w → has_mark n w ≡ false → Passed n w s
  marks_passed n [] h m = pass_none n s
  marks_passed n (c ∷ w) h m =
      let o = or_parts (is_mark n (c ∷ w)) (has_mark n w) m in
      pass_more n (c ∷ []) w s (pass_one n c (w ++ s) (mark_more n c w h ∙ o.0)) (marks_passed n w (ends_onward c w h) o.1)

-- ---- the first line of two texts

-- it ends in the first text, or goes on with the second
first_with : (w y : List ℕ) → (first_line (w ++ y) ≡ first_line w) ⊎ ((first_line (w ++ y) ≡ w ++ first_line y) × (first_line w ≡ w))
first_with [] y = inr (refl, refl)
first_with (c ∷ w) y = grind (arith, first_with w y)

pub first_all : (u : List ℕ) → has 10 u ≡ false → first_line u ≡ u
first_all [] h = refl
first_all (c ∷ u) h = let o = or_parts (c == 10) (has 10 u) h in ap (λ (b : Bool). cond b [] (c ∷ first_line u)) o.0 ∙ ap (λ (x : List ℕ). c ∷ x) (first_all u o.1)

first_through : (u y : List ℕ) → has 10 u ≡ false → first_line (u ++ 10 ∷ y) ≡ u
first_through [] y h = refl
first_through (c ∷ u) y h = let o = or_parts (c == 10) (has 10 u) h in ap (λ (b : Bool). cond b [] (c ∷ first_line (u ++ 10 ∷ y))) o.0 ∙ ap (λ (x : List ℕ). c ∷ x) (first_through u y o.1)

-- ---- no mark begins in a text

-- in none of its lines, where y follows
abbrev pub Free : List ℕ → List ℕ → Type 0
Free [] y = Unit {0}
Free (c ∷ w) y = (is_mark 2 (first_line (c ∷ (w ++ y))) ≡ false) × Free w y

pub free_back : (a b y : List ℕ) → Free (a ++ b) y → Free b y
free_back [] b y h = h
free_back (c ∷ a) b y h = free_back a b y h.1

pub free_front : (a b y : List ℕ) → Free (a ++ b) y → Free a (b ++ y)
free_front [] b y h = tt
free_front (c ∷ a) b y h = (ap (λ (x : List ℕ). is_mark 2 (first_line (c ∷ x))) (sym (append_assoc a b y)) ∙ h.0, free_front a b y h.1)

pub free_append : (a b y : List ℕ) → Free a (b ++ y) → Free b y → Free (a ++ b) y
free_append [] b y h g = g
free_append (c ∷ a) b y h g = (ap (λ (x : List ℕ). is_mark 2 (first_line (c ∷ x))) (append_assoc a b y) ∙ h.0, free_append a b y h.1 g)

-- what ends well is free by itself
pub free_alone : (w y : List ℕ) → EndsWell ends_no_value w → Free w y → Free w []
free_alone [] y h f = tt
free_alone (c ∷ w) y h f = (alone (first_with (c ∷ w) y), free_alone w y (ends_onward c w h) f.1)
  where
    same : first_line (c ∷ (w ++ [])) ≡ first_line (c ∷ w)
    same = ap (λ (x : List ℕ). first_line (c ∷ x)) (append-nil w)

    alone : (first_line (c ∷ (w ++ y)) ≡ first_line (c ∷ w)) ⊎ ((first_line (c ∷ (w ++ y)) ≡ c ∷ (w ++ first_line y)) × (first_line (c ∷ w) ≡ c ∷ w)) → is_mark 2 (first_line (c ∷ (w ++ []))) ≡ false
    alone (inl e) = ap (is_mark 2) (same ∙ sym e) ∙ f.0
    alone (inr (e, g)) = ap (is_mark 2) (same ∙ g) ∙ sym (mark_more (first_line y) 2 c w h) ∙ ap (is_mark 2) (sym e) ∙ f.0

-- its lines have no mark
pub free_lines : (v : List ℕ) → Free v [] → HaveNoMark (lines v)
free_lines [] h = (refl, tt)
free_lines (c ∷ v) h = grind (arith, free_lines v h.1, lines_split, append-nil)

-- a line without a mark, with its LF
pub free_line : (a y : List ℕ) → has 10 a ≡ false → has_mark 2 a ≡ false → Free a (10 ∷ y)
free_line [] y h m = tt
free_line (c ∷ a) y h m =
    let o = or_parts (c == 10) (has 10 a) h in
    let g = or_parts (is_mark 2 (c ∷ a)) (has_mark 2 a) m in
    (ap (is_mark 2) (first_through (c ∷ a) y h) ∙ g.0, free_line a y o.1 g.1)

-- what stands before the first mark of a line
pub record FreeBefore (n : ℕ) (l : List ℕ) : Type 0 where
  pub after : List ℕ
  pub parts : before_mark n l ++ after ≡ l
  pub free : Free (before_mark n l) after

pub free_before : (n : ℕ) → ((x : List ℕ) → is_mark n x ≡ false → is_mark 2 x ≡ false) → (l : List ℕ) → has 10 l ≡ false → FreeBefore n l
free_before n sub [] h = record { after = []; parts = refl; free = tt }
free_before n sub (c ∷ l) h = by (is_mark n (c ∷ l)) refl (free_before n sub l (or_parts (c == 10) (has 10 l) h).1)
  where
    by : (b : Bool) → is_mark n (c ∷ l) ≡ b → FreeBefore n l → FreeBefore n (c ∷ l)
    by true e f =
        let none : before_mark n (c ∷ l) ≡ [] = ap (λ (b : Bool). cond b [] (c ∷ before_mark n l)) e in
        record {
          after = c ∷ l;
          parts = ap (λ (x : List ℕ). x ++ c ∷ l) none;
          free = subst (λ (x : List ℕ). Free x (c ∷ l)) (sym none) tt;
        }
    by false e f =
        let some : before_mark n (c ∷ l) ≡ c ∷ before_mark n l = ap (λ (b : Bool). cond b [] (c ∷ before_mark n l)) e in
        record {
          after = f.after;
          parts = ap (λ (x : List ℕ). x ++ f.after) some ∙ ap (λ (x : List ℕ). c ∷ x) f.parts;
          free = subst (λ (x : List ℕ). Free x f.after) (sym some)
              (ap (λ (x : List ℕ). is_mark 2 (first_line (c ∷ x))) f.parts ∙ ap (is_mark 2) (first_all (c ∷ l) h) ∙ sub (c ∷ l) e, f.free);
        }

-- a mark of two is one of one
pub mark_of_one : (x : List ℕ) → is_mark 1 x ≡ false → is_mark 2 x ≡ false
mark_of_one [] h = refl
mark_of_one (c ∷ x) h = by (c == 59) x h
  where
    by : (b : Bool) (x : List ℕ) → (b && (is_bare x || is_mark 0 x)) ≡ false → (b && is_mark 1 x) ≡ false
    by false x h = refl
    by true [] h = refl
    by true (d ∷ x) h = (or_parts (is_bare (d ∷ x)) (is_mark 0 (d ∷ x)) h).1

-- a line without marks of one has none of two
pub no_mark_of_one : (l : List ℕ) → has_mark 1 l ≡ false → has_mark 2 l ≡ false
no_mark_of_one [] h = refl
no_mark_of_one (c ∷ l) h =
    let o = or_parts (is_mark 1 (c ∷ l)) (has_mark 1 l) h in
    ap (λ (b : Bool). b || has_mark 2 l) (mark_of_one (c ∷ l) o.0) ∙ no_mark_of_one l o.1

-- ---- no later line begins with `%%`

abbrev pub NoScore : List ℕ → Type 0
NoScore [] = Unit {0}
NoScore (c ∷ w) = ((c == 10) ≡ true → is_score_line w ≡ false) × NoScore w

pub score_front : (a b : List ℕ) → is_score_line (a ++ b) ≡ false → is_score_line a ≡ false
score_front a b h = grind (arith, and-false)

pub no_score_front : (a b : List ℕ) → NoScore (a ++ b) → NoScore a
no_score_front [] b h = tt
no_score_front (c ∷ a) b h = (λ e. score_front a b (h.0 e), no_score_front a b h.1)

pub no_score_back : (a b : List ℕ) → NoScore (a ++ b) → NoScore b
no_score_back [] b h = h
no_score_back (c ∷ a) b h = no_score_back a b h.1

-- a line in front
pub no_score_line : (a b : List ℕ) → has 10 a ≡ false → NoScore b → NoScore (a ++ b)
no_score_line [] b h g = g
no_score_line (c ∷ a) b h g =
    let o = or_parts (c == 10) (has 10 a) h in
    (λ e. absurd (let f = sym o.0 ∙ e in cc), no_score_line a b o.1 g)

-- lines none of which begins with `%%`
abbrev pub AreNoScore : List (List ℕ) → Type 0
AreNoScore [] = Unit {0}
AreNoScore (l ∷ ls) = (is_score_line l ≡ false) × AreNoScore ls

pub later_no_score : (v : List ℕ) → NoScore v → AreNoScore (later_lines v)
later_no_score [] h = tt
later_no_score (c ∷ v) h = grind (arith, later_no_score v h.1, lines_split, score_first)
