-- The lines of texts that are put together.
use Rattle.std.proofs.Common.{◌≡◌, ℕ, ◌==◌, List, [], ◌∷◌, ◌++◌, Bool, false, ◌||◌, refl, ap, arith}
use Rattle.std.proofs.lemmas.Bool.{eqb-true, or_parts}
use Rattle.gabc_headers.specs.Lines.{lines, on_first}
use Rattle.gabc_headers.proofs.machines.PartsAfterState.{lines_split}

-- whether the character stands in the text
abbrev pub has : ℕ → List ℕ → Bool
has x [] = false
has x (c ∷ l) = (c == x) || has x l

pub has-append : (x : ℕ) (a b : List ℕ) → has x a ≡ false → has x b ≡ false → has x (a ++ b) ≡ false
has-append x [] b h g = g
has-append x (c ∷ a) b h g = let o = or_parts (c == x) (has x a) h in rw o.0 (has-append x a b o.1 g)

-- after an LF the lines of what follows begin
pub lines_after : (u t : List ℕ) → lines (u ++ 10 ∷ t) ≡ lines u ++ lines t
lines_after [] t = refl
lines_after (c ∷ u) t = grind (arith, lines_after u t, lines_split)

-- a text without LF is one line
pub one_line : (u : List ℕ) → has 10 u ≡ false → lines u ≡ u ∷ []
one_line [] h = refl
one_line (c ∷ u) h = let o = or_parts (c == 10) (has 10 u) h in rw o.0 (ap (on_first c) (one_line u o.1))

-- the lines, with a text after the last
abbrev pub with_last : List ℕ → List (List ℕ) → List (List ℕ)
with_last s [] = []
with_last s (l ∷ []) = (l ++ s) ∷ []
with_last s (l ∷ m ∷ ls) = l ∷ with_last s (m ∷ ls)

-- a text without LF after another stands after its last line
pub lines_with : (u s : List ℕ) → has 10 s ≡ false → lines (u ++ s) ≡ with_last s (lines u)
lines_with [] s h = one_line s h
lines_with (c ∷ u) s h = grind (arith, lines_with u s h, lines_split)

-- lines as a text, each after an LF
abbrev pub below_text : List (List ℕ) → List ℕ
below_text [] = []
below_text (l ∷ ls) = 10 ∷ l ++ below_text ls

-- the lines of a text are that text
pub lines_joined : (u : List ℕ) → below_text (lines u) ≡ 10 ∷ u
lines_joined [] = refl
lines_joined (c ∷ u) = grind (arith, lines_joined u, lines_split, eqb-true)
