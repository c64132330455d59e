-- The events of a point, taken into two slots, and its findings.
use Rattle.std.specs.Prelude.{◌≡◌, List, length}
use Rattle.std.specs.List.{list_any}
use Rattle.gabc_places.specs.BoundedList.{BoundedList, Fits}
use Rattle.gabc_places.specs.declared.code.Finding.{Finding}
use Rattle.gabc_body.specs.declared.events.BodyEvent.{BodyEvent}
use Rattle.gabc_score.specs.declared.slot_pair.SlotUse.TheVariants.{Filling}
use Rattle.gabc_body.specs.Syllable.{closes}
use Rattle.gabc_body.specs.witness.BodyBuilder.{with_all, with_found}
use Rattle.gabc_score.specs.machine.PartPushes.{ClosesLast}
use Rattle.gabc_score.specs.machine.Slot.{FitEach}
use Rattle.gabc_score.specs.machine.SlotPair.{SlotPairState, used_by}

-- There is room for the events: a slot reads, each event fits after those before it, a `)` is the
-- last of them, and there is room for a finding of each.
pub record CanHold (events : List BodyEvent) (pair : SlotPairState) (found : BoundedList Finding) : Type 0 where
  pub reads : pair.used ≡ Filling
  pub fits : FitEach pair.gathered events
  pub once : ClosesLast events
  pub room : Fits found (length events)

-- The events were added to the state gathered, and their findings to the room; the contexts stay.
-- With a `)` a syllable is whole.
pub record HoldsEvents (events : List BodyEvent) (before : SlotPairState) (room : BoundedList Finding) (after : SlotPairState) (room_after : BoundedList Finding) : Type 0 where
  pub gathered : after.gathered ≡ with_all before.gathered events
  pub held : after.held ≡ before.held
  pub contexts : after.contexts ≡ before.contexts
  pub used : after.used ≡ used_by (list_any closes events)
  pub found : room_after ≡ with_found room events
