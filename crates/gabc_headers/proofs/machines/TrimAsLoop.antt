-- Trims as a loop over characters has them: how many characters are left out at the start, and how many are kept.
use Rattle.std.proofs.Common.{◌≡◌, ℕ, ◌-◌, suc, zero, List, [], ◌∷◌, ◌++◌, length, take, drop, Bool, true, false, cond, ◌&&◌, refl, sym, ap, ◌∙◌, arith, zero-le, take_all}
use Rattle.std.proofs.lemmas.Bool.{and_parts}
use Rattle.gabc_headers.specs.Lines.{trim_start, trim_end, unless_last}

-- whether all pass, and how many pass before the first that does not
abbrev pub all_out : (ℕ → Bool) → List ℕ → Bool
all_out out [] = true
all_out out (c ∷ l) = out c && all_out out l

abbrev pub lead_len : (ℕ → Bool) → List ℕ → ℕ
lead_len out [] = 0
lead_len out (c ∷ l) = cond (out c) (suc (lead_len out l)) 0

-- one more than the place of the last that does not pass
abbrev pub kept_len : (ℕ → Bool) → List ℕ → ℕ
kept_len out l = length (trim_end out l)

module _ (out : ℕ → Bool) where
  -- a list trimmed at its end is a prefix
  pub trim_end-take : (l : List ℕ) → trim_end out l ≡ take (kept_len out l) l
  trim_end-take [] = refl
  trim_end-take (c ∷ l) = grind (arith, trim_end-take l)

  -- a character more: left out, it changes nothing; else all is kept
  pub trim_end-out : (l : List ℕ) (c : ℕ) → out c ≡ true → trim_end out (l ++ c ∷ []) ≡ trim_end out l
  trim_end-out [] c h = rw (h) refl
  trim_end-out (d ∷ l) c h = ap (unless_last (out d) d) (trim_end-out l c h)

  pub trim_end-kept : (l : List ℕ) (c : ℕ) → out c ≡ false → trim_end out (l ++ c ∷ []) ≡ l ++ c ∷ []
  trim_end-kept [] c h = rw (h) refl
  trim_end-kept (d ∷ l) c h = ap (unless_last (out d) d) (trim_end-kept l c h) ∙ some (out d) l
    where
      some : (b : Bool) (l : List ℕ) → unless_last b d (l ++ c ∷ []) ≡ d ∷ (l ++ c ∷ [])
      some b [] = refl
      some b (e ∷ l) = refl

  -- many at the end that pass change nothing
  pub trim_end-all_out : (l m : List ℕ) → all_out out m ≡ true → trim_end out (l ++ m) ≡ trim_end out l
  trim_end-all_out [] [] h = refl
  trim_end-all_out [] (c ∷ m) h = let f = and_parts (out c) (all_out out m) h in rw (trim_end-all_out [] m f.1, f.0) refl
  trim_end-all_out (d ∷ l) m h = ap (unless_last (out d) d) (trim_end-all_out l m h)

  -- one more after one that is kept
  pub lead_len-more : (l : List ℕ) (c : ℕ) → all_out out l ≡ false → lead_len out (l ++ c ∷ []) ≡ lead_len out l
  lead_len-more [] c h = absurd (cc)
  lead_len-more (d ∷ l) c h = grind (arith, lead_len-more l c)

  -- where all pass
  pub lead_len-all : (l : List ℕ) → all_out out l ≡ true → lead_len out l ≡ length l
  lead_len-all [] h = refl
  lead_len-all (c ∷ l) h = let f = and_parts (out c) (all_out out l) h in rw f.0 (ap suc (lead_len-all l f.1))

-- the trimmed list as a part of the list
pub trim_start-take : (out : ℕ → Bool) (w : ℕ) (l : List ℕ) → trim_start out (take w l) ≡ take (w - lead_len out l) (drop (lead_len out l) l)
trim_start-take out zero l = let e : 0 - lead_len out l ≡ 0 = omega arith in rw (e) refl
trim_start-take out (suc w) [] = sym (take_all (suc w - 0) [] zero-le)
trim_start-take out (suc w) (c ∷ l) = by (out c) (trim_start-take out w l)
  where
    by : (b : Bool) → trim_start out (take w l) ≡ take (w - lead_len out l) (drop (lead_len out l) l)
        → cond b (trim_start out (take w l)) (c ∷ take w l) ≡ take (suc w - cond b (suc (lead_len out l)) 0) (drop (cond b (suc (lead_len out l)) 0) (c ∷ l))
    by true h = let e : suc w - suc (lead_len out l) ≡ w - lead_len out l = omega arith in rw (e) h
    by false h = let e : suc w - 0 ≡ suc w = omega arith in rw (e) refl

-- a list trimmed at both ends is a part of it
pub trim_both : (first last : ℕ → Bool) (l : List ℕ) → trim_start first (trim_end last l) ≡ take (kept_len last l - lead_len first l) (drop (lead_len first l) l)
trim_both first last l = ap (trim_start first) (trim_end-take last l) ∙ trim_start-take first (kept_len last l) l
