-- Plain characters: scalar values but CR and U+FEFF.
use Rattle.std.proofs.Common.{◌≡◌, ◌≢◌, ℕ, List, [], ◌∷◌, ◌++◌, Bool, true, false, ◌&&◌, not, ◌==◌, refl, sym, ap, ◌∙◌, reverse, cond, Option, Some, None, arith}
use Rattle.std.specs.List.{list_all}
use Rattle.std.specs.Char.{IsScalar}
use Rattle.std.proofs.Math.Utf8.{scalar}
use Rattle.std.proofs.lemmas.Bool.{eqb-true, eqb-false, and_parts, and_from}
use Rattle.std.proofs.lemmas.List.Elements.{All-nil, All-cons, All-head, All-tail}
use Rattle.std.proofs.lemmas.List.Folds.{list_all-append}
use Rattle.gabc_write.specs.PlainText.{IsText}
use Rattle.std.proofs.lemmas.Grind.{reverse_onto}
use Rattle.gabc_places.specs.TextOfAnInput.{IsPlain}

abbrev pub is_plain : ℕ → Bool
is_plain c = scalar c && (not (c == 13) && not (c == 0xFEFF))

abbrev pub plain : List ℕ → Bool
plain t = list_all is_plain t

module _ {X : Type 0} (p : X → Bool) where
  pub append : (xs ys : List X) → list_all p xs ≡ true → list_all p ys ≡ true → list_all p (xs ++ ys) ≡ true
  append xs ys h k = list_all-append p xs ys ∙ and_from (list_all p xs) (list_all p ys) h k

  pub parts_of : (xs ys : List X) → list_all p (xs ++ ys) ≡ true → (list_all p xs ≡ true) × (list_all p ys ≡ true)
  parts_of xs ys h = and_parts (list_all p xs) (list_all p ys) (sym (list_all-append p xs ys) ∙ h)

  pub reversed : (xs : List X) → list_all p xs ≡ true → list_all p (reverse xs) ≡ true
  reversed [] h = refl
  reversed (x ∷ xs) h =
      let k = and_parts (p x) (list_all p xs) h in
      ap (list_all p) (reverse_onto xs x []) ∙ append (reverse xs) (x ∷ []) (reversed xs k.1) (and_from (p x) true k.0 refl)

pub either : {X : Type 0} (p : X → Bool) (b : Bool) (s t : X) → p s ≡ true → p t ≡ true → p (cond b s t) ≡ true
either p true s t h k = h
either p false s t h k = k

abbrev pub plain_option : Option (List ℕ) → Bool
plain_option None = true
plain_option (Some t) = plain t

-- ---- texts

other : (a b : ℕ) → not (a == b) ≡ true → a ≢ b
other a b h = grind (arith, eqb-false)

unlike : (a b : ℕ) → a ≢ b → not (a == b) ≡ true
unlike a b h = grind (arith, eqb-true)

pub is_text : (t : List ℕ) → plain t ≡ true → IsText t
is_text [] h = record { scalars = All-nil IsScalar; plain = All-nil IsPlain }
is_text (c ∷ t) h =
    let g = and_parts (is_plain c) (plain t) h in
    let here = and_parts (scalar c) (not (c == 13) && not (c == 0xFEFF)) g.0 in
    let marks = and_parts (not (c == 13)) (not (c == 0xFEFF)) here.1 in
    let later = is_text t g.1 in
    record { scalars = All-cons IsScalar c t here.0 later.scalars; plain = All-cons IsPlain c t (other c 13 marks.0, other c 0xFEFF marks.1) later.plain }

pub text_plain : (t : List ℕ) → IsText t → plain t ≡ true
text_plain [] h = refl
text_plain (c ∷ t) h =
    let marks : IsPlain c = All-head IsPlain c t h.plain in
    let here : is_plain c ≡ true = and_from (scalar c) (not (c == 13) && not (c == 0xFEFF)) (All-head IsScalar c t h.scalars) (and_from (not (c == 13)) (not (c == 0xFEFF)) (unlike c 13 marks.0) (unlike c 0xFEFF marks.1)) in
    and_from (is_plain c) (plain t) here (text_plain t (record { scalars = All-tail IsScalar c t h.scalars; plain = All-tail IsPlain c t h.plain }))
