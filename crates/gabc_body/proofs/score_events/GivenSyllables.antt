-- What is given syllable by syllable is all of them.
use Rattle.std.proofs.Common.{◌≡◌, ℕ, suc, ◌+◌, ◌-◌, ◌≤◌, ◌||◌, Bool, true, false, List, [], ◌∷◌, ◌++◌, length, take, drop, refl, ap, ◌∙◌, arith, append_assoc, length-append, take-append-drop}
use Rattle.gabc_body.specs.Syllable.{UnplacedSyllable, PlacedSyllable}
use Rattle.gabc_body.specs.Canonical.{position_by, placed_syllables_by, with_positions}
use Rattle.gabc_body.specs.ScoreEvents.{not_given, given_now}
use Rattle.std.proofs.lemmas.List.{drop-drop, drop-take}

-- a part of a list up to n, and the list from n on
cut_at : {A : Type 0} (m n : ℕ) (xs : List A) → m ≤ n → drop m (take n xs) ++ drop n xs ≡ drop m xs
cut_at m n xs h =
    let parts : m + (n - m) ≡ n = omega (arith, h) in
    rw (← parts, drop-take, ← drop-drop (n - m) m xs) (take-append-drop (n - m) (drop m xs))

-- the positions of all but the last do not depend on what is made later
settled : (first : Bool) (ms more : List UnplacedSyllable) → take (length ms - 1) (placed_syllables_by first ms) ≡ take (length ms - 1) (placed_syllables_by first (ms ++ more))
settled first [] more = refl
settled first (m ∷ []) more = refl
settled first (m ∷ n ∷ ms) more =
    let less : length (m ∷ n ∷ ms) - 1 ≡ suc (length (n ∷ ms) - 1) = omega arith in
    rw less
    (ap (λ ps. record { made = m; position = position_by (first || m.text.word_start) n.text.word_start } ∷ ps) (settled false (n ∷ ms) more))

given_on : (before more later : List UnplacedSyllable)
    → given_now (length before) (before ++ more) ++ not_given (length (before ++ more)) ((before ++ more) ++ later) ≡ not_given (length before) ((before ++ more) ++ later)
given_on before more later =
    ap (λ (ps : List PlacedSyllable). drop (length before - 1) ps ++ not_given (length (before ++ more)) ((before ++ more) ++ later)) (settled true (before ++ more) later)
    ∙ cut_at (length before - 1) (length (before ++ more) - 1) (with_positions ((before ++ more) ++ later)) (let l = length-append before more in omega (arith, l))

-- What is given when more are made, and what is given of all these and of those that are made later, is what was not given before.
pub given_then : (before more later all : List UnplacedSyllable) → all ≡ before ++ more
    → given_now (length before) all ++ not_given (length all) (all ++ later) ≡ not_given (length before) (before ++ (more ++ later))
given_then before more later all e = rw e (given_on before more later ∙ ap (not_given (length before)) (append_assoc before more later))
