-- A room that is filled with two pieces, one after the other, is filled with their join.
use Rattle.std.proofs.Common.{◌≡◌, ℕ, zero, suc, ◌-◌, List, [], ◌∷◌, ◌++◌, length, take, ap, ◌∙◌, append_assoc, length-append, arith}
use Rattle.gabc_places.specs.BoundedList.{BoundedList, room_left}
use Rattle.gabc_places.specs.Put.{filled_with}

-- the first n of two lists, where m is what the first one leaves of n
take_both : (n m : ℕ) (a b : List ℕ) → m ≡ n - length (take n a) → take n a ++ take m b ≡ take n (a ++ b)
take_both zero m a b e = let none : m ≡ zero = omega (arith, e) in ap (λ (i : ℕ). take i b) none
take_both (suc n) m [] b e = let all : m ≡ suc n = omega (arith, e) in ap (λ (i : ℕ). take i b) all
take_both (suc n) m (x ∷ a) b e = ap (λ (l : List ℕ). x ∷ l) (take_both n m a b (omega (arith, e)))

pub filled_both : (r : BoundedList ℕ) (a b : List ℕ) → filled_with (filled_with r a) b ≡ filled_with r (a ++ b)
filled_both r a b =
    let first = take (room_left r) a in
    let left : r.limit - length (r.items ++ first) ≡ room_left r - length first = omega (arith, length-append r.items first) in
    ap (λ (l : List ℕ). record r { items = l }) (append_assoc r.items first _ ∙ ap (λ (l : List ℕ). r.items ++ l) (take_both (room_left r) _ a b left))
