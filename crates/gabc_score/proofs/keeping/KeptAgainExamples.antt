-- Worked rows of the definition of specs/KeptAgain.antt: `a`, alone and with a comment after it,
-- `(f`, and `([)` with its bracket, inside which no comment can be open. Of `a)b` the `)` is not
-- kept, so it is no kept text.
use Rattle.std.proofs.Common.{◌≡◌, [], ◌∷◌, true, false, Some, None, refl, codes}
use Rattle.gabc_places.specs.Fate.{Comment, Keep}
use Rattle.gabc_places.specs.declared.place.Place.{Place}
use Rattle.gabc_score.specs.declared.body_tells.Openers.{Openers}
use Rattle.gabc_score.specs.KeptAgain.{IsKeptAgain}
use Rattle.gabc_score.specs.ReadAgain.{no_openers}

abbrev at : Place
at = record { line = 5; column = 5 }

abbrev notes_open : Openers
notes_open = record { notes = Some at; inner = None }

abbrev bracket_open : Openers
bracket_open = record { notes = Some at; inner = Some (record { line = 6; column = 6 }) }

letter : IsKeptAgain 0 0 (codes "a") no_openers false
letter = record { kept = refl; none = refl; percent = λ e. refl; notes = refl; inner = refl }

comment : IsKeptAgain 0 0 (codes "a") no_openers true
comment = record { kept = refl; none = refl; percent = λ e. refl; notes = refl; inner = refl }

notes : IsKeptAgain 0 0 (codes "(f") notes_open false
notes = record { kept = refl; none = refl; percent = λ e. refl; notes = refl; inner = refl }

bracket : IsKeptAgain 0 0 (codes "([)") bracket_open false
bracket = record { kept = refl; none = refl; percent = λ e. absurd (cc e); notes = refl; inner = refl }

inside_bracket : IsKeptAgain 0 0 (codes "([)") bracket_open true → ⊥
inside_bracket h = let e : Keep ≡ Comment = h.percent refl in cc

stray : IsKeptAgain 0 0 (codes "a)b") no_openers false → ⊥
stray h = let e : 97 ∷ 98 ∷ [] ≡ 97 ∷ 41 ∷ 98 ∷ [] = h.kept in cc
