-- What is open stands in its order before the next character, after each character.
use Rattle.std.proofs.Common.{ℕ, ◌+◌, ◌<◌, ◌^◌, Option, Some, None, arith}
use Rattle.std.specs.Prelude.{IfSome}
use Rattle.gabc_places.specs.declared.place.Place.{Place}
use Rattle.gabc_places.specs.Findings.{IsUpTo}
use Rattle.gabc_places.specs.Place.{saturating_next_place}
use Rattle.gabc_score.specs.declared.body_tells.Openers.{Openers}
use Rattle.gabc_places.specs.PlacesInOrder.{IsEarlier, LiesBefore, AreInOrder}
use Rattle.gabc_score.specs.ReportedWithin.{IsPlace, AreOpenersBefore}
use Rattle.gabc_score.specs.machine.PartOpens.{OpensOn}

lies_later : (at next : Place) → IsUpTo at next → (o : Option Place) → IfSome o (LiesBefore at) → IfSome o (LiesBefore next)
lies_later at next up None h = tt
lies_later at next up (Some p) h = record { line = h.line; column = h.column; in_64_bits = h.in_64_bits; earlier = let e = h.earlier in grind arith }

module _ (at next : Place) (on : IsEarlier at next) where
  order_none : (o : Option Place) → AreInOrder o None
  order_none o = grind arith

  order_here : (o : Option Place) → IfSome o (LiesBefore at) → AreInOrder o (Some at)
  order_here o h = grind arith

  module _ (is : IsPlace at) where
    lies_here : LiesBefore next at
    lies_here = record { line = is.line; column = is.column; in_64_bits = is.in_64_bits; earlier = on }

    pub opens_in_order : (before after : Openers) → OpensOn at before after → AreOpenersBefore at before → AreOpenersBefore next after
    opens_in_order before after opens h = grind (arith, lies_later, lies_here, order_none, order_here)

-- the place after a character
pub place_after_input : (at : Place) (c : ℕ) → IsPlace at → at.line + 1 < 2 ^ 64 → at.column + 1 < 2 ^ 64 → IsPlace (saturating_next_place at c) × IsEarlier at (saturating_next_place at c)
place_after_input at c is l k = grind arith

-- the next character stands there or later
pub openers_moved : (next at : Place) (o : Openers) → IsUpTo next at → AreOpenersBefore next o → AreOpenersBefore at o
openers_moved next at o up h = record { notes = lies_later next at up o.notes h.notes; inner = lies_later next at up o.inner h.inner; in_order = h.in_order }
