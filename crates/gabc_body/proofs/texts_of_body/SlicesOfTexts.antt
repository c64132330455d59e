-- Spans of a text, and cut texts.
use Rattle.std.proofs.Common.{◌≡◌, ℕ, ◌-◌, min, max, List, length, take, drop, sym, ap, ◌∙◌, arith, length-drop}
use Rattle.std.proofs.lemmas.List.{take_min}
use Rattle.gabc_places.specs.declared.place.Span.{Span}
use Rattle.gabc_body.specs.Syllable.{slice}

-- counts that differ only past the end take the same
take_same : {X : Type 0} (xs : List X) (n m : ℕ) → min n (length xs) ≡ min m (length xs) → take n xs ≡ take m xs
take_same xs n m h = sym (take_min n xs) ∙ ap (λ k. take k xs) h ∙ take_min m xs

-- no bytes past the end are taken
taken : (bytes : List ℕ) (from to : ℕ)
    → take (max (min to (length bytes)) (min from (length bytes)) - min from (length bytes)) (drop (min from (length bytes)) bytes) ≡ take (to - from) (drop from bytes)
taken bytes from to = grind (arith, take_same, length-drop)

pub slice_within : (span : Span) (bytes : List ℕ) (from to : ℕ) → from ≡ min span.from (length bytes) → to ≡ max (min span.to (length bytes)) from
    → take (to - from) (drop from bytes) ≡ slice span bytes
unfolding slice
slice_within span bytes from to f t = rw (t, f) (taken bytes span.from span.to)
