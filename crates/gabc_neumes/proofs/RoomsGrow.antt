-- A room to which more is added, and then more again.
use Rattle.std.proofs.Common.{◌≡◌, List, ◌++◌, ap, append_assoc}
use Rattle.gabc_places.specs.BoundedList.{BoundedList, extended_by}

-- it grows by both
pub extended-more : {T : Type 0} (r : BoundedList T) (xs ys : List T) → extended_by (extended_by r xs) ys ≡ extended_by r (xs ++ ys)
extended-more {T} r xs ys = ap (λ (x : List T). record r { items = x }) (append_assoc r.items xs ys)
