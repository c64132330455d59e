-- Parts that are put one after the other are put as one.
use Rattle.std.proofs.Common.{◌≡◌, ℕ, List, [], ◌∷◌, ◌++◌, sym, arith}
use Rattle.std.proofs.lemmas.List.Concat.{flat_map-cons}
use Rattle.gabc_places.specs.StageLaw.{concat_of}

-- what it is once it has taken each of these parts
abbrev pub each_taken : {S : Type 0} → (S → List ℕ → S) → S → List (List ℕ) → S
each_taken taken s [] = s
each_taken taken s (part ∷ parts) = each_taken taken (taken s part) parts

pub taken_as_one : {S : Type 0} (taken : S → List ℕ → S) → ((s : S) → taken s [] ≡ s) → ((s : S) (a b : List ℕ) → taken (taken s a) b ≡ taken s (a ++ b))
    → (s : S) (parts : List (List ℕ)) → each_taken taken s parts ≡ taken s (concat_of parts)
taken_as_one taken nothing both s [] = sym (nothing s)
taken_as_one taken nothing both s (part ∷ parts) = grind (arith, taken_as_one taken nothing both (taken s part) parts, flat_map-cons)
