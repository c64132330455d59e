-- Findings of several parts, one after the other, in order.
use Rattle.std.proofs.Common.{◌<◌, List, [], ◌∷◌, ◌++◌, arith}
use Rattle.gabc_places.proofs.PlacesInOrder.{up_to_then, before_then, then_before, stands_before}
use Rattle.gabc_places.specs.declared.place.Place.{Place}
use Rattle.gabc_places.specs.declared.code.Finding.{Finding}
use Rattle.gabc_places.specs.declared.code.Code.{Code}
use Rattle.gabc_places.specs.declared.code.Code.TheVariants.{W9}
use Rattle.gabc_places.specs.Code.{rank_of}
use Rattle.gabc_places.specs.Findings.{ComesBefore, ComeAfter, AreInOrder, IsUpTo, LieBetween}
use Rattle.gabc_places.specs.PlacesInOrder.{IsEarlier}
use Rattle.std.proofs.lemmas.List.Elements.{All-nil, All-cons, All-head, All-tail}
use Rattle.std.specs.List.{All}

-- ---- lists of findings

-- the first part of a list, and the rest
pub all_first : {X : Type 0} (P : X → Type 0) (xs ys : List X) → All P (xs ++ ys) → All P xs
all_first P [] ys h = All-nil P
all_first P (x ∷ xs) ys h = All-cons P x xs (All-head P x (xs ++ ys) h) (all_first P xs ys (All-tail P x (xs ++ ys) h))

pub all_rest : {X : Type 0} (P : X → Type 0) (xs ys : List X) → All P (xs ++ ys) → All P ys
all_rest P [] ys h = h
all_rest P (x ∷ xs) ys h = all_rest P xs ys (All-tail P x (xs ++ ys) h)

-- this holds of each
abbrev pub AllAre : (Finding → Type 0) → List Finding → Type 0
AllAre P [] = Unit {0}
AllAre P (f ∷ fs) = P f × AllAre P fs

pub all_append : (P : Finding → Type 0) (fs gs : List Finding) → AllAre P fs → AllAre P gs → AllAre P (fs ++ gs)
all_append P [] gs h k = k
all_append P (f ∷ fs) gs h k = (h.0, all_append P fs gs h.1 k)

pub all_prefix : (P : Finding → Type 0) (fs gs : List Finding) → AllAre P (fs ++ gs) → AllAre P fs
all_prefix P [] gs h = tt
all_prefix P (f ∷ fs) gs h = (h.0, all_prefix P fs gs h.1)

abbrev pub AllFrom : Place → List Finding → Type 0
AllFrom p fs = AllAre (λ f. IsUpTo p f.place) fs

abbrev pub AllUpTo : Place → List Finding → Type 0
AllUpTo q fs = AllAre (λ f. IsUpTo f.place q) fs

-- each stands before this one
abbrev pub AllBefore : Finding → List Finding → Type 0
AllBefore g fs = AllAre (λ f. ComesBefore f g) fs

pub lie_from : (p q : Place) (fs : List Finding) → LieBetween p q fs → AllFrom p fs
lie_from p q [] h = tt
lie_from p q (f ∷ fs) h = (h.0.0, lie_from p q fs h.1)

pub lie_up_to : (p q : Place) (fs : List Finding) → LieBetween p q fs → AllUpTo q fs
lie_up_to p q [] h = tt
lie_up_to p q (f ∷ fs) h = (h.0.1, lie_up_to p q fs h.1)

pub from_earlier : (p q : Place) (fs : List Finding) → IsUpTo p q → AllFrom q fs → AllFrom p fs
from_earlier p q [] l h = tt
from_earlier p q (f ∷ fs) l h = (up_to_then p q f.place l h.0, from_earlier p q fs l h.1)

-- findings up to q stand before one after q
pub all_before : (q : Place) (g : Finding) (fs : List Finding) → AllUpTo q fs → IsEarlier q g.place → AllBefore g fs
all_before q g [] h l = tt
all_before q g (f ∷ fs) h l = (stands_before f g (then_before f.place q g.place h.0 l), all_before q g fs h.1 l)

after_one : (f : Finding) (fs gs : List Finding) (q r : Place) → IsUpTo f.place q → AllUpTo q fs → IsEarlier q r → ComeAfter f fs → AreInOrder gs → AllFrom r gs → ComeAfter f (fs ++ gs)
after_one f [] [] q r u h l s o k = tt
after_one f [] (g ∷ gs) q r u h l s o k = (stands_before f g (before_then f.place r g.place (then_before f.place q r u l) k.0), o)
after_one f (x ∷ fs) gs q r u h l s o k = (s.0, after_one x fs gs q r h.0 h.1 l s.1 o k)

-- findings in order up to q, and findings in order from a place after q on
pub order_append : (fs gs : List Finding) (q r : Place) → AreInOrder fs → AllUpTo q fs → IsEarlier q r → AreInOrder gs → AllFrom r gs → AreInOrder (fs ++ gs)
order_append fs gs q r s h l o k = grind (arith, after_one)

one_more : (f : Finding) (fs : List Finding) (g : Finding) (gs : List Finding) → ComesBefore f g → AllBefore g fs → ComeAfter f fs → AreInOrder (g ∷ gs) → ComeAfter f (fs ++ g ∷ gs)
one_more f [] g gs l h s o = (l, o)
one_more f (x ∷ fs) g gs l h s o = (s.0, one_more x fs g gs h.0 h.1 s.1 o)

-- findings in order, and such as all of them stand before
pub order_then : (fs : List Finding) (g : Finding) (gs : List Finding) → AreInOrder fs → AllBefore g fs → AreInOrder (g ∷ gs) → AreInOrder (fs ++ g ∷ gs)
order_then fs g gs s h o = grind (arith, one_more)

stand_prefix : (f : Finding) (fs gs : List Finding) → ComeAfter f (fs ++ gs) → ComeAfter f fs
stand_prefix f [] gs h = tt
stand_prefix f (x ∷ fs) gs h = (h.0, stand_prefix x fs gs h.1)

-- a prefix of findings in order
pub order_prefix : (fs gs : List Finding) → AreInOrder (fs ++ gs) → AreInOrder fs
order_prefix fs gs h = grind (arith, stand_prefix)

-- ---- codes

-- each has a code below this one
abbrev pub AllBelow : Code → List Finding → Type 0
AllBelow code fs = AllAre (λ f. rank_of f.code < rank_of code) fs

pub below_higher : (low high : Code) (fs : List Finding) → rank_of low < rank_of high → AllBelow low fs → AllBelow high fs
below_higher low high [] l h = tt
below_higher low high (f ∷ fs) l h = ((let k = h.0 in omega (arith, k, l)), below_higher low high fs l h.1)

-- the finding of a text without notes, at this place
abbrev pub no_notes : Place → Finding
no_notes p = record { place = p; code = W9 }

-- findings up to a place, with codes below this one
pub below_before : (code : Code) (p : Place) (fs : List Finding) → AllUpTo p fs → AllBelow code fs → AllBefore (record { place = p; code = code }) fs
below_before code p [] h b = tt
below_before code p (f ∷ fs) h b = (let u = h.0 in let c = b.0 in grind arith, below_before code p fs h.1 b.1)
