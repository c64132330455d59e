-- What the next of a book's headers is.
use Rattle.std.specs.Prelude.{◌≡◌, ℕ, List, [], ◌∷◌, Option, MatchOption}
use Rattle.std.specs.Borrow.{Bor}
use Rattle.std.specs.Str.{chars}

-- of these headers the first is given, and the others are still to come; or there is none
abbrev pub GivesHeader : List (List ℕ × List ℕ) → Option (Bor (List ℕ) × Bor (List ℕ)) → List (List ℕ × List ℕ) → Type 0
GivesHeader ahead item after =
    MatchOption item ((ahead ≡ []) × (after ≡ [])) (λ header. ahead ≡ (chars header.0.now, chars header.1.now) ∷ after)
