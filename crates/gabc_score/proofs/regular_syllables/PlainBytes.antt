-- Plain bytes: among them neither a CR nor the first byte of U+FEFF stands.
use Rattle.std.proofs.Common.{◌≡◌, ℕ, zero, suc, ◌+◌, ◌-◌, List, [], ◌∷◌, take, drop, refl, sym, ap, subst, arith, take-append-drop}
use Rattle.std.specs.List.{All}
use Rattle.std.proofs.lemmas.List.{drop-take}
use Rattle.std.proofs.lemmas.List.Elements.{All-append, All-drop, All-nil, All-take}
use Rattle.gabc_score.specs.machine.RegularLen.{IsPlainByte}

-- what is left of the first n bytes without k of them
pub plain_rest : (bytes : List ℕ) (n k : ℕ) → All IsPlainByte (take n bytes) → All IsPlainByte (take (n - k) (drop k bytes))
plain_rest bytes n k h = by (n - k) refl
  where
    by : (left : ℕ) → n - k ≡ left → All IsPlainByte (take left (drop k bytes))
    by zero e = All-nil IsPlainByte
    by (suc left) e =
        let whole : k + suc left ≡ n = omega (arith, e) in
        subst (All IsPlainByte) (drop-take k (suc left) bytes) (All-drop IsPlainByte k (take (k + suc left) bytes) (subst (λ (m : ℕ). All IsPlainByte (take m bytes)) (sym whole) h))

takes : (a b : ℕ) (l : List ℕ) → take b (take a l) ≡ take a (take b l)
takes zero zero l = refl
takes zero (suc b) l = refl
takes (suc a) zero l = refl
takes (suc a) (suc b) [] = refl
takes (suc a) (suc b) (x ∷ l) = ap (λ (t : List ℕ). x ∷ t) (takes a b l)

-- those of the first n that are among the first m
pub plain_front : (bytes : List ℕ) (n m : ℕ) → All IsPlainByte (take n bytes) → All IsPlainByte (take n (take m bytes))
plain_front bytes n m h = subst (All IsPlainByte) (takes n m bytes) (All-take IsPlainByte m (take n bytes) h)

-- the first n bytes and the others
pub plain_both : (bytes : List ℕ) (n : ℕ) → All IsPlainByte (take n bytes) → All IsPlainByte (drop n bytes) → All IsPlainByte bytes
plain_both bytes n front rest = subst (All IsPlainByte) (take-append-drop n bytes) (All-append IsPlainByte (take n bytes) (drop n bytes) front rest)
