-- The test of what a pattern spells decides it.
use Rattle.std.proofs.Common.{◌≡◌, ℕ, ◌==◌, ◌⊎◌, inl, inr, List, [], ◌∷◌, ◌++◌, Bool, true, false, cond, refl, ap, ◌∙◌, subst, ne_eqb, arith, Decides, Some, None}
use Rattle.std.specs.List.{concat}
use Rattle.gabc_patterns.specs.Pattern.{Pattern, never, nothing, one_of, any_but, ◌·◌, ◌or◌, many, is_in, Spells}
use Rattle.gabc_patterns.specs.LongestItems.{Table, IsItemOf}
use Rattle.gabc_patterns.specs.Derivative.{may_end}
use Rattle.gabc_patterns.proofs.DerivativesSpellWhatFollows.{first_part, end_from, end_to, test_left, but_left}
use Rattle.gabc_patterns.specs.Reads.{rest_of, spells, kind_of}

two_ways : (b : Bool) (r s : Pattern) (t : List ℕ) → Spells r t ⊎ ((b ≡ true) × Spells s t) → Spells (cond b (r or s) r) t
two_ways true r s t (inl h) = inl h
two_ways true r s t (inr h) = inr h.1
two_ways false r s t (inl h) = h
two_ways false r s t (inr h) = absurd (let f = h.0 in cc)

which_way : (b : Bool) (r s : Pattern) (t : List ℕ) → Spells (cond b (r or s) r) t → Spells r t ⊎ ((b ≡ true) × Spells s t)
which_way true r s t (inl h) = inl h
which_way true r s t (inr h) = inr (refl, h)
which_way false r s t h = inl h

-- what a sequence spells after a character
sequence_to : (p q : Pattern) (c : ℕ) (t : List ℕ) → ((a : List ℕ) → Spells p (c ∷ a) → Spells (rest_of c p) a)
    → (Spells q (c ∷ t) → Spells (rest_of c q) t) → Spells (p · q) (c ∷ t) → Spells (rest_of c p · q) t ⊎ ((may_end p ≡ true) × Spells (rest_of c q) t)
sequence_to p q c t F G ([], b, x, y, e) = inr (end_to p x, G (subst (Spells q) (let f : b ≡ c ∷ t = cc in f) y))
sequence_to p q c t F G (d ∷ a, b, x, y, e) =
    let f : d ≡ c = cc in
    let g : t ≡ a ++ b = cc in
    inl (a, b, F a (subst (λ (z : ℕ). Spells p (z ∷ a)) f x), y, g)

pub rest_to : (p : Pattern) (c : ℕ) (t : List ℕ) → Spells p (c ∷ t) → Spells (rest_of c p) t
rest_to never c t h = h
rest_to nothing c t h = absurd (cc)
rest_to (one_of cs) c t (d, i, e) = grind arith
rest_to (any_but x) c t (d, n, e) = grind (arith, ne_eqb)
rest_to (p · q) c t h = two_ways (may_end p) (rest_of c p · q) (rest_of c q) t (sequence_to p q c t (λ a. rest_to p c a) (rest_to q c t) h)
rest_to (p or q) c t (inl h) = inl (rest_to p c t h)
rest_to (p or q) c t (inr h) = inr (rest_to q c t h)
rest_to (many p) c t (parts, each, e) =
    let (a, rest, x, y, f) = first_part (Spells p) c t parts each e in
    (a, concat rest, rest_to p c a x, (rest, y, refl), f)

pub rest_from : (p : Pattern) (c : ℕ) (t : List ℕ) → Spells (rest_of c p) t → Spells p (c ∷ t)
rest_from never c t h = h
rest_from nothing c t h = absurd h
rest_from (one_of cs) c t h = test_left cs c (is_in c cs) t refl h
rest_from (any_but x) c t h = but_left x c (x == c) t refl h
rest_from (p · q) c t h =
    elim (which_way (may_end p) (rest_of c p · q) (rest_of c q) t h) [
      | inl x ↦ (c ∷ x.0, x.1, rest_from p c x.0 x.2, x.3, ap (λ (y : List ℕ). c ∷ y) x.4)
      | inr x ↦ ([], c ∷ t, end_from p x.0, rest_from q c t x.1, refl)
    ]
rest_from (p or q) c t (inl h) = inl (rest_from p c t h)
rest_from (p or q) c t (inr h) = inr (rest_from q c t h)
rest_from (many p) c t (a, b, x, (parts, each, f), e) =
    ((c ∷ a) ∷ parts, (rest_from p c a x, each), ap (λ (y : List ℕ). c ∷ y) (e ∙ ap (λ (y : List ℕ). a ++ y) f))

pub spells_from : (p : Pattern) (t : List ℕ) → spells p t ≡ true → Spells p t
spells_from p [] e = end_from p e
spells_from p (c ∷ t) e = rest_from p c t (spells_from (rest_of c p) t e)

pub spells_to : (p : Pattern) (t : List ℕ) → Spells p t → spells p t ≡ true
spells_to p [] h = end_to p h
spells_to p (c ∷ t) h = spells_to (rest_of c p) t (rest_to p c t h)

pub spells_decides : (p : Pattern) (t : List ℕ) → Decides (spells p t) (Spells p t)
spells_decides p t = (spells_from p t, spells_to p t)

-- the kind that is found is one of the text
pub kind_is : {K : Type 0} (rows : Table K) (t : List ℕ) (k : K) → kind_of rows t ≡ Some k → IsItemOf rows k t
kind_is [] t k e = absurd (cc)
kind_is {K} (row ∷ rows) t k e = go (spells row.1 t) refl (kind_is rows t k) e
  where
    go : (b : Bool) → spells row.1 t ≡ b → (kind_of rows t ≡ Some k → IsItemOf rows k t) → cond b (Some row.0) (kind_of rows t) ≡ Some k → IsItemOf (row ∷ rows) k t
    go true f F e = inl ((let g : row.0 ≡ k = cc in g), spells_from row.1 t f)
    go false f F e = inr (F e)

-- if none is found, the text is no item
pub none_is : {K : Type 0} (rows : Table K) (t : List ℕ) (k : K) → kind_of rows t ≡ None → IsItemOf rows k t → ⊥
none_is [] t k e h = h
none_is {K} (row ∷ rows) t k e h = go (spells row.1 t) refl (none_is rows t k) e h
  where
    go : (b : Bool) → spells row.1 t ≡ b → (kind_of rows t ≡ None → IsItemOf rows k t → ⊥) → cond b (Some row.0) (kind_of rows t) ≡ None → IsItemOf (row ∷ rows) k t → ⊥
    go true f F e h = absurd (cc)
    go false f F e (inl h) = let g = spells_to row.1 t h.1 in absurd (cc)
    go false f F e (inr h) = F e h
