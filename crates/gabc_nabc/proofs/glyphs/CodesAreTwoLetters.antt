-- The codes that the table spells.
use Rattle.std.proofs.Common.{◌≡◌, ℕ, ◌≤◌, List, [], ◌∷◌, Bool, true, false, not, ◌&&◌, ◌==◌, refl, sym, ap, ◌∙◌, codes, arith, IsTrue, ◌↔◌, inl, inr}
use native.Mathlib.Decide.{dec_lt}
use Rattle.std.proofs.lemmas.Bool.Decides.{nat_tests}
use Rattle.std.proofs.lemmas.Bool.{not-true, and_parts}
use Rattle.gabc_patterns.specs.Pattern.{Spells, one_of, ◌·◌, is_in}
use Rattle.gabc_patterns.proofs.AutomatonsByTests.{below, below_at, alike, alike_equal}
use Rattle.gabc_nabc.specs.Table.{code}
use Rattle.gabc_nabc.specs.Events.{is_letter, begins_code, is_code}

abbrev pub letters : List ℕ
letters = codes "abcdefghijklmnopqrstuvwxyz"

abbrev pub firsts : List ℕ
firsts = codes "abcdefgijkmnoqrtuvwxyz"

abbrev pub after_s : List ℕ
after_s = codes "abcdefghijklmnopqrstvwxyz"

abbrev pub after_p : List ℕ
after_p = codes "abcdefghijklmnoqrstuvwxyz"

abbrev pub after_l : List ℕ
after_l = codes "abcdefghijklmnopqruvwxyz"

-- ---- two tests of one character are alike

below_or_beyond : (f g : ℕ → Bool) → below 128 (λ c. alike (f c) (g c)) ≡ true → ((c : ℕ) → 128 ≤ c → f c ≡ g c) → (c : ℕ) → f c ≡ g c
below_or_beyond f g t far c = elim (dec_lt c 128) [
  | yes l ↦ alike_equal (f c) (g c) (below_at 128 (λ d. alike (f d) (g d)) c t l)
  | no n ↦ far c (omega arith)
]

letters_are : (c : ℕ) → is_in c letters ≡ is_letter c
letters_are = below_or_beyond (λ c. is_in c letters) is_letter refl (λ c h. grind (arith, nat_tests))

firsts_are : (a : ℕ) → is_in a firsts ≡ (begins_code a && (not (a == 115) && (not (a == 112) && not (a == 108))))
firsts_are = below_or_beyond (λ a. is_in a firsts) (λ a. begins_code a && (not (a == 115) && (not (a == 112) && not (a == 108)))) refl (λ c h. grind (arith, nat_tests))

after_s_are : (c : ℕ) → is_in c after_s ≡ is_code 115 c
after_s_are = below_or_beyond (λ c. is_in c after_s) (is_code 115) refl (λ c h. grind (arith, nat_tests))

after_p_are : (c : ℕ) → is_in c after_p ≡ is_code 112 c
after_p_are = below_or_beyond (λ c. is_in c after_p) (is_code 112) refl (λ c h. grind (arith, nat_tests))

after_l_are : (c : ℕ) → is_in c after_l ≡ is_code 108 c
after_l_are = below_or_beyond (λ c. is_in c after_l) (is_code 108) refl (λ c h. grind (arith, nat_tests))

-- ---- what two letters spell

-- one of these, and one of those
pair_to : (cs ds : List ℕ) (a c : ℕ) → Spells (one_of cs · one_of ds) (a ∷ c ∷ []) → (is_in a cs ≡ true) × (is_in c ds ≡ true)
pair_to cs ds a c g = grind arith

pair_from : (cs ds : List ℕ) (a c : ℕ) → is_in a cs ≡ true → is_in c ds ≡ true → Spells (one_of cs · one_of ds) (a ∷ c ∷ [])
pair_from cs ds a c h i = (a ∷ [], c ∷ [], (a, h, refl), (c, i, refl), refl)

pub same_in : (n a : ℕ) → is_in a (n ∷ []) ≡ true → a ≡ n
same_in n a e = grind arith

in_same : (n a : ℕ) → a ≡ n → is_in a (n ∷ []) ≡ true
in_same n a e = grind arith

-- a letter that begins any code, and any letter
plain_code : (a c : ℕ) → (a == 115) ≡ false → (a == 112) ≡ false → (a == 108) ≡ false → is_code a c ≡ (begins_code a && is_letter c)
plain_code a c s p l = grind arith

spelled : (a c : ℕ) → is_code a c ≡ true → Spells code (a ∷ c ∷ [])
spelled a c e = go (a == 115) (a == 112) (a == 108) refl refl refl
  where
    go : (s p l : Bool) → (a == 115) ≡ s → (a == 112) ≡ p → (a == 108) ≡ l → Spells code (a ∷ c ∷ [])
    go true p l f g h =
        let same : a ≡ 115 = grind (arith, nat_tests) in
        inr (inl (pair_from (115 ∷ []) after_s a c (in_same 115 a same) (after_s_are c ∙ (ap (λ (n : ℕ). is_code n c) (sym same) ∙ e))))
    go false true l f g h =
        let same : a ≡ 112 = grind (arith, nat_tests) in
        inr (inr (inl (pair_from (112 ∷ []) after_p a c (in_same 112 a same) (after_p_are c ∙ (ap (λ (n : ℕ). is_code n c) (sym same) ∙ e)))))
    go false false true f g h =
        let same : a ≡ 108 = grind (arith, nat_tests) in
        inr (inr (inr (pair_from (108 ∷ []) after_l a c (in_same 108 a same) (after_l_are c ∙ (ap (λ (n : ℕ). is_code n c) (sym same) ∙ e)))))
    go false false false f g h =
        let both = and_parts (begins_code a) (is_letter c) (sym (plain_code a c f g h) ∙ e) in
        inl (pair_from firsts letters a c (firsts_are a ∙ rw (both.0, f, g, h) refl) (letters_are c ∙ both.1))

is_spelled : (a c : ℕ) → Spells code (a ∷ c ∷ []) → is_code a c ≡ true
is_spelled a c h = grind (arith, pair_to, and_parts, firsts_are, plain_code, not-true, letters_are, same_in, after_s_are, after_p_are, after_l_are)

-- the table spells two letters exactly if they are a code
pub letters_spell : (a c : ℕ) → IsTrue (is_code a c) ↔ Spells code (a ∷ c ∷ [])
letters_spell a c = (spelled a c, is_spelled a c)
