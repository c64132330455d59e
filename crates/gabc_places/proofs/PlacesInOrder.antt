-- Places in their order, and findings between two places.
use Rattle.std.proofs.Common.{ℕ, List, [], ◌∷◌, ◌++◌, refl, arith, inr}
use Rattle.gabc_places.specs.declared.place.Place.{Place}
use Rattle.gabc_places.specs.declared.code.Finding.{Finding}
use Rattle.gabc_places.specs.Findings.{IsUpTo, LieBetween, ComesBefore}
use Rattle.gabc_places.specs.Place.{next_place, place_past}
use Rattle.gabc_places.specs.PlacesInOrder.{IsEarlier}

pub up_to_self : (p : Place) → IsUpTo p p
up_to_self p = inr (refl, omega arith)

pub before_up_to : (p q : Place) → IsEarlier p q → IsUpTo p q
before_up_to p q h = grind arith

pub up_to_then : (p q r : Place) → IsUpTo p q → IsUpTo q r → IsUpTo p r
up_to_then p q r h k = grind arith

pub before_then : (p q r : Place) → IsEarlier p q → IsUpTo q r → IsEarlier p r
before_then p q r h k = grind arith

pub then_before : (p q r : Place) → IsUpTo p q → IsEarlier q r → IsEarlier p r
then_before p q r h k = grind arith

-- a place stands before the next one
pub before_next : (p : Place) (c : ℕ) → IsEarlier p (next_place p c)
before_next p c = grind arith

pub up_to_next : (p : Place) (c : ℕ) → IsUpTo p (next_place p c)
up_to_next p c = before_up_to p (next_place p c) (before_next p c)

-- a text ends no earlier than it begins
pub up_to_past : (p : Place) (t : List ℕ) → IsUpTo p (place_past p t)
up_to_past p [] = up_to_self p
up_to_past p (c ∷ t) = up_to_then p (next_place p c) (place_past (next_place p c) t) (up_to_next p c) (up_to_past (next_place p c) t)

-- ---- findings

pub stands_before : (f g : Finding) → IsEarlier f.place g.place → ComesBefore f g
stands_before f g h = grind arith

pub lie_wider : (p q r : Place) (fs : List Finding) → IsUpTo q r → LieBetween p q fs → LieBetween p r fs
lie_wider p q r [] l h = tt
lie_wider p q r (f ∷ fs) l h = ((h.0.0, up_to_then f.place q r h.0.1 l), lie_wider p q r fs l h.1)

pub lie_append : (p q : Place) (fs gs : List Finding) → LieBetween p q fs → LieBetween p q gs → LieBetween p q (fs ++ gs)
lie_append p q [] gs h k = k
lie_append p q (f ∷ fs) gs h k = (h.0, lie_append p q fs gs h.1 k)
