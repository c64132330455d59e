-- What tests alike is equal.
use Rattle.std.proofs.Common.{◌≡◌, ℕ, ◌==◌, List, [], ◌∷◌, true, refl, ap, eqb-true, inl, inr, subst}
use Rattle.std.proofs.lemmas.Bool.{and_parts, or_cases}
use Rattle.gabc_patterns.specs.Pattern.{Pattern, never, nothing, one_of, any_but, ◌·◌, ◌or◌, many, Spells}
use Rattle.gabc_patterns.specs.Derivative.{same_texts, same_pattern, is_choice}

-- lists of characters that test alike are equal
pub same_texts_equal : (t u : List ℕ) → same_texts t u ≡ true → t ≡ u
same_texts_equal [] [] e = refl
same_texts_equal [] (d ∷ u) e = absurd (cc)
same_texts_equal (c ∷ t) [] e = absurd (cc)
same_texts_equal (c ∷ t) (d ∷ u) e =
    let h = and_parts (c == d) (same_texts t u) e in
    let f = eqb-true c d h.0 in
    let g = same_texts_equal t u h.1 in
    cc

-- patterns that test alike are equal
pub same_equal : (p q : Pattern) → same_pattern p q ≡ true → p ≡ q
same_equal never never e = refl
same_equal nothing nothing e = refl
same_equal (one_of cs) (one_of ds) e = ap one_of (same_texts_equal cs ds e)
same_equal (any_but c) (any_but d) e = ap any_but (eqb-true c d e)
same_equal (p · q) (r · s) e =
    let h = and_parts (same_pattern p r) (same_pattern q s) e in
    let f = same_equal p r h.0 in
    let g = same_equal q s h.1 in
    cc
same_equal (p or q) (r or s) e =
    let h = and_parts (same_pattern p r) (same_pattern q s) e in
    let f = same_equal p r h.0 in
    let g = same_equal q s h.1 in
    cc
same_equal (many p) (many q) e = ap many (same_equal p q e)
same_equal _ _ e = absurd (cc)

-- what a choice of q spells, q spells
pub choice_spells : (p q : Pattern) (t : List ℕ) → is_choice p q ≡ true → Spells p t → Spells q t
choice_spells p (q or r) t e h = elim (or_cases (is_choice p q) (is_choice p r) e) [
  | inl x ↦ inl (choice_spells p q t x h)
  | inr x ↦ inr (choice_spells p r t x h)
]
choice_spells p q t e h = subst (λ r. Spells r t) (same_equal p q e) h
