-- Alterations are read one after the other.
use Rattle.std.proofs.Common.{◌≡◌, ℕ, ◌+◌, ◌<◌, ◌≤◌, List, [], ◌∷◌, ◌++◌, length, map, take, drop, get_or, Option, Some, refl, sym, ap, ◌∙◌, append_assoc, arith}
use Rattle.std.proofs.Math.ListN.{drop_of_length-le}
use Rattle.std.proofs.lemmas.List.{append-nil, drop_more, map-append, take-append-drop, take_all, take_more}
use Rattle.gabc_neumes.specs.declared.sound.Alter.{Alter}
use Rattle.gregorio_state.specs.StateBytes.{alter_number}
use Rattle.gregorio_state.specs.machine.Reading.{◌>>=◌, alter_of, alters_of}

-- what was read before, and what is still read
abbrev pub with_front : List Alter → Option (List Alter) → Option (List Alter)
with_front front read = read >>= λ others. Some (front ++ others)

regroup : (front : List Alter) (a : Alter) (read : Option (List Alter)) → with_front front (read >>= λ others. Some (a ∷ others)) ≡ with_front (front ++ a ∷ []) read
regroup front a read = grind (arith, append_assoc)

pub goes_on : (front : List Alter) (numbers : List ℕ) (i : ℕ) (a : Alter) (total : Option (List Alter)) → i < length numbers → alter_of (get_or numbers i 0) ≡ Some a
    → with_front front (alters_of (drop i numbers)) ≡ total → with_front (front ++ a ∷ []) (alters_of (drop (i + 1) numbers)) ≡ total
goes_on front numbers i a total lt e so_far = sym (regroup front a (alters_of (drop (i + 1) numbers))) ∙ sym one ∙ so_far
  where
    one : with_front front (alters_of (drop i numbers)) ≡ with_front front (alters_of (drop (i + 1) numbers) >>= λ others. Some (a ∷ others))
    one = rw (drop_more numbers i 0 lt, e) refl

-- the numbers of those read are the numbers that they were read from
pub written_on : (front : List Alter) (numbers : List ℕ) (i : ℕ) (a : Alter) → i < length numbers → get_or numbers i 0 ≡ alter_number a → take i numbers ≡ map alter_number front → take (i + 1) numbers ≡ map alter_number (front ++ a ∷ [])
written_on front numbers i a lt e so_far = grind (arith, take_more, map-append)

pub all_read : (alters : List Alter) (numbers : List ℕ) (i : ℕ) → length numbers ≤ i → length alters ≤ i → with_front (take i alters) (alters_of (drop i numbers)) ≡ alters_of numbers → Some alters ≡ alters_of numbers
all_read alters numbers i n a so_far = grind (arith, drop_of_length-le, take_all, append-nil)

pub all_written : (alters : List Alter) (numbers : List ℕ) (i : ℕ) → length numbers ≤ i → length alters ≤ i → take i numbers ≡ map alter_number (take i alters) → numbers ≡ map alter_number alters
all_written alters numbers i n a so_far = sym (take_all i numbers n) ∙ so_far ∙ ap (map alter_number) (take_all i alters a)

-- the bytes are these, and the others
pub joined : (bytes front rest numbers : List ℕ) → front ≡ take 15 bytes → rest ≡ drop 15 bytes → front ≡ numbers → bytes ≡ numbers ++ rest
joined bytes front rest numbers f r e = sym (take-append-drop 15 bytes) ∙ rw (← f, ← r, e) refl
