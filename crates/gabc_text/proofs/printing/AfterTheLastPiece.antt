-- After the last piece.
use Rattle.std.proofs.Common.{◌≡◌, ℕ, zero, suc, ◌≤◌, List, [], ◌∷◌, length, drop, refl, ap, arith, Option}
use Rattle.gabc_places.specs.declared.place.Span.{Span}
use Rattle.gabc_text.specs.declared.styles.Style.{Style}
use Rattle.gabc_text.specs.declared.view.Piece.{Piece}
use Rattle.gabc_text.specs.Canonical.{text_from, boundary, braces}

all_dropped : (n : ℕ) (ps : List Piece) → length ps ≤ n → drop n ps ≡ []
all_dropped zero [] h = refl
all_dropped (suc n) [] h = refl
all_dropped zero (p ∷ ps) h = absurd (omega arith)
all_dropped (suc n) (p ∷ ps) h = all_dropped n ps (omega arith)

-- after the last piece a boundary is left
pub last_text : (centre : Option Span) (kept : List ℕ) (i : ℕ) (old : List Style) (ps : List Piece) → length ps ≤ i
    → text_from centre kept i old (drop i ps) ≡ boundary old [] (braces centre i)
last_text centre kept i old ps h = ap (text_from centre kept i old) (all_dropped i ps h)
