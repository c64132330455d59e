-- Trimmed texts, and what trimming leaves of a text.
use Rattle.std.proofs.Common.{◌≡◌, ℕ, ◌==◌, List, [], ◌∷◌, ◌++◌, Bool, true, false, cond, ◌||◌, ◌&&◌, refl, sym, ap, ◌∙◌, arith}
use Rattle.std.proofs.lemmas.Bool.{or_parts}
use Rattle.gabc_headers.specs.Lines.{trim_start, trim_end, unless_last, is_blank, is_bare}
use Rattle.gabc_headers.proofs.printing.LinesOfTexts.{has}

module _ (out : ℕ → Bool) where
  -- nothing is trimmed from the start, or from the end
  abbrev pub StartsWell : List ℕ → Type 0
  StartsWell [] = Unit {0}
  StartsWell (c ∷ l) = out c ≡ false

  abbrev pub EndsWell : List ℕ → Type 0
  EndsWell [] = Unit {0}
  EndsWell (c ∷ []) = out c ≡ false
  EndsWell (c ∷ d ∷ l) = EndsWell (d ∷ l)

  pub start_kept : (l : List ℕ) → StartsWell l → trim_start out l ≡ l
  start_kept l h = grind arith

  pub end_kept : (l : List ℕ) → EndsWell l → trim_end out l ≡ l
  end_kept [] h = refl
  end_kept (c ∷ []) h = ap (λ (b : Bool). cond b [] (c ∷ [])) h
  end_kept (c ∷ d ∷ l) h = ap (unless_last (out c) c) (end_kept (d ∷ l) h)

  pub starts_well : (l : List ℕ) → StartsWell (trim_start out l)
  starts_well [] = tt
  starts_well (c ∷ l) = grind (arith, starts_well l)

  pub ends_well : (l : List ℕ) → EndsWell (trim_end out l)
  ends_well [] = tt
  ends_well (c ∷ l) = grind (arith, ends_well l)

-- a suffix ends as the text does
pub end_of_suffix : (out at : ℕ → Bool) (l : List ℕ) → EndsWell out l → EndsWell out (trim_start at l)
end_of_suffix out at [] h = tt
end_of_suffix out at (c ∷ []) h = grind arith
end_of_suffix out at (c ∷ d ∷ l) h = grind (arith, end_of_suffix out at (d ∷ l) h)

-- ---- the parts of a text

-- what is trimmed stands around what is left
pub start_suffix : (out : ℕ → Bool) (l : List ℕ) → (front : List ℕ) × (l ≡ front ++ trim_start out l)
start_suffix out [] = ([], refl)
start_suffix out (c ∷ l) = by (out c) (start_suffix out l)
  where
    by : (b : Bool) → (front : List ℕ) × (l ≡ front ++ trim_start out l) → (front : List ℕ) × (c ∷ l ≡ front ++ cond b (trim_start out l) (c ∷ l))
    by true (front, e) = (c ∷ front, ap (λ (x : List ℕ). c ∷ x) e)
    by false h = ([], refl)

pub end_prefix : (out : ℕ → Bool) (l : List ℕ) → (back : List ℕ) × (l ≡ trim_end out l ++ back)
end_prefix out [] = ([], refl)
end_prefix out (c ∷ l) = by (out c) (trim_end out l) (end_prefix out l)
  where
    by : (b : Bool) (r : List ℕ) → (back : List ℕ) × (l ≡ r ++ back) → (back : List ℕ) × (c ∷ l ≡ unless_last b c r ++ back)
    by true [] (back, e) = (c ∷ back, ap (λ (x : List ℕ). c ∷ x) e)
    by false [] (back, e) = (back, ap (λ (x : List ℕ). c ∷ x) e)
    by b (d ∷ r) (back, e) = (back, ap (λ (x : List ℕ). c ∷ x) e)

pub has_front : (x : ℕ) (a b : List ℕ) → has x (a ++ b) ≡ false → has x a ≡ false
has_front x [] b h = refl
has_front x (c ∷ a) b h = let o = or_parts (c == x) (has x (a ++ b)) h in ap (λ (p : Bool). p || has x a) o.0 ∙ has_front x a b o.1

pub has_back : (x : ℕ) (a b : List ℕ) → has x (a ++ b) ≡ false → has x b ≡ false
has_back x [] b h = h
has_back x (c ∷ a) b h = has_back x a b (or_parts (c == x) (has x (a ++ b)) h).1

pub has_no_start : (x : ℕ) (out : ℕ → Bool) (l : List ℕ) → has x l ≡ false → has x (trim_start out l) ≡ false
has_no_start x out l h = let (front, e) = start_suffix out l in has_back x front (trim_start out l) (sym (ap (has x) e) ∙ h)

pub has_no_end : (x : ℕ) (out : ℕ → Bool) (l : List ℕ) → has x l ≡ false → has x (trim_end out l) ≡ false
has_no_end x out l h = let (back, e) = end_prefix out l in has_front x (trim_end out l) back (sym (ap (has x) e) ∙ h)

-- ---- a trimmed text is not bare

-- a line that is not skipped is not skipped either from its first character on that is no blank
pub not_bare : (u y x : List ℕ) (c : ℕ) (n : List ℕ) → trim_start is_blank (trim_end is_blank u) ≡ c ∷ n → is_bare (u ++ y) ≡ false → is_bare ((c ∷ n) ++ x) ≡ false
not_bare [] y x c n e h = absurd (cc)
not_bare (d ∷ u) y x c n e h =
    let o = or_parts (d == 37) (is_blank d && is_bare (u ++ y)) h in
    by (is_blank d) (trim_end is_blank u) refl e o.1 o.0 (λ f g. not_bare u y x c n f g)
  where
    first : {a b : ℕ} → {l m : List ℕ} → a ∷ l ≡ b ∷ m → a ≡ b
    first e = cc

    neither : (a : ℕ) (r : List ℕ) → a ∷ r ≡ c ∷ n → is_blank a ≡ false → (a == 37) ≡ false → ((c == 37) || (is_blank c && is_bare (n ++ x))) ≡ false
    neither a r f b p = ap (λ (z : ℕ). (z == 37) || (is_blank z && is_bare (n ++ x))) (sym (first f)) ∙ rw (p, b) refl

    by : (b : Bool) (r : List ℕ) → is_blank d ≡ b → trim_start is_blank (unless_last b d r) ≡ c ∷ n → (b && is_bare (u ++ y)) ≡ false → (d == 37) ≡ false
        → (trim_start is_blank r ≡ c ∷ n → is_bare (u ++ y) ≡ false → is_bare ((c ∷ n) ++ x) ≡ false) → is_bare ((c ∷ n) ++ x) ≡ false
    by true [] f e g p r = absurd (cc)
    by true (a ∷ l) f e g p r = r (sym (ap (λ (b : Bool). cond b (trim_start is_blank (a ∷ l)) (d ∷ a ∷ l)) f) ∙ e) g
    by false [] f e g p r = neither d [] (sym (ap (λ (b : Bool). cond b [] (d ∷ [])) f) ∙ e) f p
    by false (a ∷ l) f e g p r = neither d (a ∷ l) (sym (ap (λ (b : Bool). cond b (trim_start is_blank (a ∷ l)) (d ∷ a ∷ l)) f) ∙ e) f p
