-- A text of two characters or more is no single one.
use Rattle.std.proofs.Common.{◌≡◌, ◌≤◌, ℕ, ◌==◌, ◌&&◌, Bool, true, false, List, [], ◌∷◌, length, not, refl, ap, arith}
use Rattle.gabc_patterns.specs.Derivative.{same_texts}
use Rattle.gabc_notes.specs.Notes.{is_sign}

and_false : (b : Bool) → (b && false) ≡ false
and_false true = refl
and_false false = refl

pub longer_is_not_one : (t : List ℕ) (d : ℕ) → 2 ≤ length t → same_texts t (d ∷ []) ≡ false
longer_is_not_one [] d h = absurd (omega arith)
longer_is_not_one (c ∷ []) d h = absurd (omega arith)
longer_is_not_one (c ∷ e ∷ t) d h = and_false (c == d)

pub longer_is_sign : (t : List ℕ) → 2 ≤ length t → is_sign t ≡ true
longer_is_sign [] h = absurd (omega arith)
longer_is_sign (c ∷ []) h = absurd (omega arith)
longer_is_sign (c ∷ e ∷ t) h = ap not (and_false (c == 48))
