-- A text of no bytes joins no syllables: a canonical text has its two brackets.
use Rattle.std.proofs.Common.{◌≡◌, ◌≤◌, ◌+◌, ℕ, Bool, true, false, List, [], ◌∷◌, ◌++◌, map, length, refl, ap, arith, length-append}
use Rattle.gabc_places.specs.StageLaw.{concat_of}
use Rattle.gabc_body.specs.Canonical.{canonical_in_place}
use Rattle.gabc_body.specs.Syllable.{PlacedSyllable}
use Rattle.gabc_score.specs.GivesSyllables.{AreJoined, spelled_canonical}

brackets : (s : PlacedSyllable) → 2 ≤ length (canonical_in_place s)
brackets s = grind (arith, length-append)

little : (starts : Bool) → length (spelled_canonical starts []) ≤ 1
little true = omega arith
little false = omega arith

pub none_joined : (starts : Bool) (n : ℕ) (joined : List PlacedSyllable) → AreJoined starts [] n joined → joined ≡ []
none_joined starts n [] j = refl
none_joined starts n (s ∷ joined) j = absurd (
    let e : length (canonical_in_place s ++ concat_of (map canonical_in_place joined)) ≡ length (spelled_canonical starts []) = ap (λ (l : List ℕ). length l) j.canonical_is in
    omega (arith, e, brackets s, little starts, length-append (canonical_in_place s) (concat_of (map canonical_in_place joined))))

pub nothing_joined : (starts : Bool) (text : List ℕ) (n : ℕ) → length text + 1 ≡ 1 → (joined : List PlacedSyllable) → AreJoined starts text n joined → joined ≡ []
nothing_joined starts [] n none joined j = none_joined starts n joined j
nothing_joined starts (c ∷ text) n none joined j = absurd (omega (arith, none))
