-- What may follow a character.
use Rattle.std.proofs.Common.{◌≡◌, ℕ, ◌==◌, ◌⊎◌, inl, inr, List, [], ◌∷◌, ◌++◌, Bool, true, cond, refl, ap, ◌∙◌, subst, ne_eqb, arith}
use Rattle.std.proofs.lemmas.Bool.{eqb-false, and_parts, or_cases, or_left, or_right}
use Rattle.std.specs.List.{concat}
use Rattle.gabc_patterns.specs.Pattern.{Pattern, never, nothing, one_of, any_but, ◌·◌, ◌or◌, many, is_in, Spells, Each}
use Rattle.gabc_patterns.specs.Derivative.{is_choice, join, either, may_end, derivative}
use Rattle.gabc_patterns.proofs.PartsOfNothing.{append_none}
use Rattle.gabc_patterns.proofs.EqualPatterns.{choice_spells}

-- ---- the joined forms

-- a sequence, joined
pub join_from : (p q : Pattern) (t : List ℕ) → Spells (p · q) t → Spells (join p q) t
join_from never q t (a, b, x, y, e) = x
join_from nothing q t (a, b, x, y, e) = subst (Spells q) (let f : b ≡ t = cc in f) y
join_from _ q t h = h

-- a joined sequence, apart
pub join_to : (p q : Pattern) (t : List ℕ) → Spells (join p q) t → Spells (p · q) t
join_to never q t h = absurd h
join_to nothing q t h = ([], t, refl, h, refl)
join_to _ q t h = h

-- a choice that is there already is left out
pub add_from : (b : Bool) (p q : Pattern) (t : List ℕ) → is_choice p q ≡ b → Spells (p or q) t → Spells (cond b q (p or q)) t
add_from b p q t e h = grind (arith, choice_spells)

-- a choice more spells what the others do, and itself
pub add_to : (b : Bool) (p q : Pattern) (t : List ℕ) → Spells (cond b q (p or q)) t → Spells (p or q) t
add_to b p q t h = grind arith

-- a choice, put together
pub either_from : (p q : Pattern) (t : List ℕ) → Spells (p or q) t → Spells (either p q) t
either_from never q t (inl h) = absurd h
either_from never q t (inr h) = h
either_from p never t (inl h) = h
either_from p never t (inr h) = absurd h
either_from (p or r) q t (inl (inl h)) = either_from p (either r q) t (inl h)
either_from (p or r) q t (inl (inr h)) = either_from p (either r q) t (inr (either_from r q t (inl h)))
either_from (p or r) q t (inr h) = either_from p (either r q) t (inr (either_from r q t (inr h)))
either_from p q t h = add_from (is_choice p q) p q t refl h

-- choices put together, apart
pub either_to : (p q : Pattern) (t : List ℕ) → Spells (either p q) t → Spells (p or q) t
either_to never q t h = inr h
either_to p never t h = inl h
either_to (p or r) q t h = elim (either_to p (either r q) t h) [
  | inl x ↦ inl (inl x)
  | inr x ↦ elim (either_to r q t x) [ inl y ↦ inl (inr y) | inr y ↦ inr y ]
]
either_to p q t h = add_to (is_choice p q) p q t h

-- ---- the empty text

-- a pattern that tests so spells the empty text
pub end_from : (p : Pattern) → may_end p ≡ true → Spells p []
end_from never e = absurd (cc)
end_from nothing e = refl
end_from (one_of cs) e = absurd (cc)
end_from (any_but x) e = absurd (cc)
end_from (p · q) e =
    let h = and_parts (may_end p) (may_end q) e in
    ([], [], end_from p h.0, end_from q h.1, refl)
end_from (p or q) e = elim (or_cases (may_end p) (may_end q) e) [ inl h ↦ inl (end_from p h) | inr h ↦ inr (end_from q h) ]
end_from (many p) e = ([], tt, refl)

-- a pattern that spells the empty text tests so
pub end_to : (p : Pattern) → Spells p [] → may_end p ≡ true
end_to never h = absurd h
end_to nothing h = refl
end_to (one_of cs) (c, i, e) = absurd (cc)
end_to (any_but x) (c, i, e) = absurd (cc)
end_to (p · q) (a, b, x, y, e) =
    let h = append_none a b e in
    let hp : may_end p ≡ true = end_to p (subst (Spells p) h.0 x) in
    let hq : may_end q ≡ true = end_to q (subst (Spells q) h.1 y) in
    rw (hp, hq) refl
end_to (p or q) (inl h) = or_left (may_end p) (may_end q) (end_to p h)
end_to (p or q) (inr h) = or_right (may_end p) (may_end q) (end_to q h)
end_to (many p) h = refl

-- ---- a character more

-- the first part of a sequence of parts that is not empty
pub first_part : (P : List ℕ → Type 0) (c : ℕ) (t : List ℕ) (parts : List (List ℕ)) → Each P parts → c ∷ t ≡ concat parts
    → (a : List ℕ) × (rest : List (List ℕ)) × P (c ∷ a) × Each P rest × (t ≡ a ++ concat rest)
first_part P c t [] h e = absurd (cc)
first_part P c t ([] ∷ parts) h e = first_part P c t parts h.1 e
first_part P c t ((d ∷ a) ∷ parts) h e = grind arith

-- after the first of two, or the second where the first may end
pub two_ways : (b : Bool) (p q r : Pattern) (t : List ℕ) → Spells (p · q) t ⊎ ((b ≡ true) × Spells r t) → Spells (cond b (either (join p q) r) (join p q)) t
two_ways b p q r t h = grind (arith, either_from, join_from)

-- what may follow in a sequence: more of its first pattern, or its second where the first may end
pub which_way : (b : Bool) (p q r : Pattern) (t : List ℕ) → Spells (cond b (either (join p q) r) (join p q)) t → Spells (p · q) t ⊎ ((b ≡ true) × Spells r t)
which_way b p q r t h = grind (arith, either_to, join_to)

-- what a sequence spells after a character
pub sequence_to : (p q : Pattern) (c : ℕ) (t : List ℕ) → ((a : List ℕ) → Spells p (c ∷ a) → Spells (derivative c p) a)
    → (Spells q (c ∷ t) → Spells (derivative c q) t) → Spells (p · q) (c ∷ t) → Spells (derivative c (p · q)) t
sequence_to p q c t F G ([], b, x, y, e) = grind (arith, two_ways, end_to)
sequence_to p q c t F G (d ∷ a, b, x, y, e) = grind (arith, two_ways)

-- what follows the character
pub after_to : (p : Pattern) (c : ℕ) (t : List ℕ) → Spells p (c ∷ t) → Spells (derivative c p) t
after_to never c t h = h
after_to nothing c t h = absurd (cc)
after_to (one_of cs) c t (d, i, e) = grind arith
after_to (any_but x) c t (d, n, e) = grind (arith, ne_eqb)
after_to (p · q) c t h = sequence_to p q c t (λ a. after_to p c a) (after_to q c t) h
after_to (p or q) c t (inl h) = either_from (derivative c p) (derivative c q) t (inl (after_to p c t h))
after_to (p or q) c t (inr h) = either_from (derivative c p) (derivative c q) t (inr (after_to q c t h))
after_to (many p) c t (parts, each, e) =
    let (a, rest, x, y, f) = first_part (Spells p) c t parts each e in
    join_from (derivative c p) (many p) t (a, concat rest, after_to p c a x, (rest, y, refl), f)

-- a character that tests as one of cs
pub test_left : (cs : List ℕ) (c : ℕ) (b : Bool) (t : List ℕ) → is_in c cs ≡ b → Spells (cond b nothing never) t → Spells (one_of cs) (c ∷ t)
test_left cs c b t e h = grind arith

-- a character that tests as another than x
pub but_left : (x : ℕ) (c : ℕ) (b : Bool) (t : List ℕ) → x == c ≡ b → Spells (cond b never nothing) t → Spells (any_but x) (c ∷ t)
but_left x c b t e h = grind (arith, eqb-false)

-- what may follow the character does
pub after_from : (p : Pattern) (c : ℕ) (t : List ℕ) → Spells (derivative c p) t → Spells p (c ∷ t)
after_from never c t h = h
after_from nothing c t h = absurd h
after_from (one_of cs) c t h = test_left cs c (is_in c cs) t refl h
after_from (any_but x) c t h = but_left x c (x == c) t refl h
after_from (p · q) c t h =
    elim (which_way (may_end p) (derivative c p) q (derivative c q) t h) [
      | inl x ↦ (c ∷ x.0, x.1, after_from p c x.0 x.2, x.3, ap (λ (y : List ℕ). c ∷ y) x.4)
      | inr x ↦ ([], c ∷ t, end_from p x.0, after_from q c t x.1, refl)
    ]
after_from (p or q) c t h =
    elim (either_to (derivative c p) (derivative c q) t h) [ inl x ↦ inl (after_from p c t x) | inr x ↦ inr (after_from q c t x) ]
after_from (many p) c t h =
    let (a, b, x, (parts, each, f), e) = join_to (derivative c p) (many p) t h in
    ((c ∷ a) ∷ parts, (after_from p c a x, each), ap (λ (y : List ℕ). c ∷ y) (e ∙ ap (λ (y : List ℕ). a ++ y) f))
