-- The characters of a text with their places.
use Rattle.std.proofs.Common.{◌≡◌, ℕ, zero, suc, ◌<◌, List, [], ◌∷◌, ◌++◌, length, take, get_or, Some, Option, refl, ap, sym, ◌∙◌, arith, append_assoc, append-nil}
use Rattle.std.specs.List.{slice_get}
use Rattle.gabc_places.specs.Place.{place_after, placed_characters_after}
use Rattle.gabc_places.specs.declared.place.Char.{Char}

-- each character of a text has one place
pub length-placed : (prefix text : List ℕ) → length (placed_characters_after prefix text) ≡ length text
length-placed prefix [] = refl
length-placed prefix (c ∷ cs) = ap suc (length-placed (prefix ++ c ∷ []) cs)

some_at : ℕ → List ℕ → Option Char
some_at c prefix = Some (record { c = c; place = place_after prefix })

-- the character at i stands after the first i characters
pub placed-at : (prefix text : List ℕ) (i : ℕ) → i < length text → slice_get (placed_characters_after prefix text) i ≡ Some (record { c = get_or text i 0; place = place_after (prefix ++ take i text) })
unfolding some_at
placed-at prefix [] i less = absurd (omega arith)
placed-at prefix (c ∷ cs) zero less = ap (some_at c) (sym (append-nil prefix))
placed-at prefix (c ∷ cs) (suc i) less = placed-at (prefix ++ c ∷ []) cs i (omega arith) ∙ ap (some_at (get_or cs i 0)) (append_assoc prefix (c ∷ []) (take i cs))

-- what follows a text is placed after it
pub placed-append : (prefix xs ys : List ℕ) → placed_characters_after prefix (xs ++ ys) ≡ placed_characters_after prefix xs ++ placed_characters_after (prefix ++ xs) ys
placed-append prefix [] ys = ap (λ f. placed_characters_after f ys) (sym (append-nil prefix))
placed-append prefix (c ∷ xs) ys = grind (arith, placed-append (prefix ++ c ∷ []) xs ys, append_assoc)
