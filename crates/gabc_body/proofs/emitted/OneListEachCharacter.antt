-- How many lists a body emits.
use Rattle.std.proofs.Common.{◌≡◌, ℕ, suc, ◌+◌, List, [], ◌∷◌, length, refl, ap, ◌∙◌, arith}
use Rattle.gabc_places.specs.declared.place.Char.{Char}
use Rattle.gabc_body.specs.Events.{PartAhead, Texts, events_from, part_at, part_after_character}

pub events_each : (texts : Texts) (lines macros : ℕ) (part : PartAhead) (xs : List Char) → length (events_from texts lines macros part xs) ≡ length xs + 1
events_each texts lines macros part [] = refl
events_each texts lines macros part (x ∷ xs) = ap suc (events_each texts lines macros (part_after_character texts lines macros (part_at texts part x xs) x xs) xs) ∙ (let e : suc (length xs + 1) ≡ length (x ∷ xs) + 1 = omega arith in e)
