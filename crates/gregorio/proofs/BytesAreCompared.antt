-- What is left of a text after bytes with which it begins.
use Rattle.std.proofs.Common.{◌≡◌, ◌≢◌, ℕ, List, [], ◌∷◌, ◌++◌, Bool, true, Option, Some, None, MatchOption, Bor, refl, ap, sym, ◌∙◌, arith}
use Rattle.std.specs.Prelude.{◌==◌, ◌↔◌, IsTrue, if◌then◌else◌}
use Rattle.std.specs.Option.{option_map}
use Rattle.std.proofs.lemmas.List.{append-nil}
use Rattle.std.proofs.lemmas.Bool.Decides.{Decides-eqb}
use Rattle.gregorio.specs.machine.Comparison.{compared_with, left_past}

left_at_one : (b : ℕ) (left : Option (List ℕ)) → (if b == b then left else None) ≡ left
left_at_one b left = let same : (b == b) ≡ true = (Decides-eqb b b).1 refl in rw same refl

pub left_after_front : (bytes rest : List ℕ) → left_past bytes (bytes ++ rest) ≡ Some rest
left_after_front [] rest = refl
left_after_front (b ∷ bytes) rest = left_at_one b (left_past bytes (bytes ++ rest)) ∙ left_after_front bytes rest

one_more : (b c : ℕ) (left : Option (List ℕ)) (text more rest : List ℕ) → (left ≡ Some rest → text ≡ more) → (if b == c then left else None) ≡ Some rest → c ∷ text ≡ b ∷ more
one_more b c left text more rest front is = grind arith

pub front_of_left : (bytes text rest : List ℕ) → left_past bytes text ≡ Some rest → text ≡ bytes ++ rest
front_of_left [] text rest is = cc is
front_of_left (b ∷ bytes) [] rest is = absurd (cc is)
front_of_left (b ∷ bytes) (c ∷ text) rest is = one_more b c (left_past bytes text) text (bytes ++ rest) rest (front_of_left bytes text rest) is

none_if : (o : Option (List ℕ)) → ((rest : List ℕ) → o ≡ Some rest → ⊥) → None ≡ o
none_if o h = grind arith

pub left_is : (bytes text : List ℕ) (r : Option (Bor (List ℕ))) → MatchOption r ((rest : List ℕ) → text ≢ bytes ++ rest) (λ x. text ≡ bytes ++ x.now) → option_map (λ (x : Bor (List ℕ)). x.now) r ≡ left_past bytes text
left_is bytes text None none = none_if (left_past bytes text) (λ rest is. none rest (front_of_left bytes text rest is))
left_is bytes text (Some x) is = sym (ap (left_past bytes) is ∙ left_after_front bytes x.now)

-- a text of which nothing is left after these bytes, and only that, is the same
pub same_text : (before after : Option (List ℕ)) (text bytes : List ℕ) (is_same : Bool) → before ≡ Some text → after ≡ compared_with before bytes → (IsTrue is_same ↔ after ≡ Some []) → IsTrue is_same ↔ bytes ≡ text
same_text before after text bytes is_same fresh came told = (
  λ same. sym (front_of_left bytes text [] (sym left ∙ told.0 same) ∙ append-nil bytes),
  λ same. told.1 (left ∙ ap (λ (t : List ℕ). left_past bytes t) (sym same ∙ sym (append-nil bytes)) ∙ left_after_front bytes []),
)
  where
    left : after ≡ left_past bytes text
    left = came ∙ ap (λ (c : Option (List ℕ)). compared_with c bytes) fresh
