-- Events are held one after the other.
use Rattle.std.proofs.Common.{◌≡◌, ◌≢◌, ℕ, ◌+◌, ◌<◌, Bool, false, List, [], ◌∷◌, ◌++◌, map, length, take, drop, get_or, refl, sym, ap, subst, ◌∙◌, arith, append_assoc, length-append, length-drop}
use Rattle.std.proofs.lemmas.List.{drop_more, length-map, map-append, take_more}
use Rattle.std.proofs.lemmas.List.Folds.{list_any-append}
use Rattle.gabc_places.specs.BoundedList.{BoundedList}
use Rattle.gabc_places.specs.declared.code.Finding.{Finding}
use Rattle.gabc_body.specs.declared.events.BodyEvent.{BodyEvent}
use Rattle.gabc_score.specs.declared.slot_pair.SlotUse.{SlotUse}
use Rattle.gabc_score.specs.declared.slot_pair.SlotUse.TheVariants.{Filling, Lent}
use Rattle.gabc_score.specs.machine.HoldsEvents.{CanHold, HoldsEvents}
use Rattle.gabc_score.specs.machine.SlotPair.{SlotPairState, used_by}
use Rattle.gabc_body.proofs.gathering.EventsOfOnePoint.{found_then, with_all_append}
use Rattle.gabc_score.proofs.score_events.EventsStayWithinBounds.{found_few}

-- ---- the first of them

pub never_lent : (used : SlotUse) (b : Bool) → used ≡ used_by b → used ≢ Lent
never_lent used b e = grind arith

pub none_closes : (used : SlotUse) (b : Bool) → used ≡ used_by b → used ≡ Filling → b ≡ false
none_closes used b e f = grind arith

module _ {t : BodyEvent} {ts : List BodyEvent} {p : SlotPairState} {r : BoundedList Finding} (h : CanHold (t ∷ ts) p r) where
  first_fits : CanHold (t ∷ []) p r
  first_fits = record { reads = h.reads; fits = (h.fits.0, tt); once = ((λ e. refl), tt); room = (let room = h.room in omega (arith, room)) }

  rest_fits : {q : SlotPairState} {s : BoundedList Finding} → HoldsEvents (t ∷ []) p r q s → 0 < length ts → CanHold ts q s
  rest_fits g some = grind (arith, length-append, found_few)

  -- what was gathered before it, and it
  one_more : {es : List BodyEvent} {first : SlotPairState} {found : BoundedList Finding} {q : SlotPairState} {s : BoundedList Finding} → HoldsEvents es first found p r → HoldsEvents (t ∷ []) p r q s → HoldsEvents (es ++ t ∷ []) first found q s
  one_more done g = grind (arith, with_all_append, none_closes, list_any-append, append_assoc, found_then)

-- ---- in other words

module _ {O : Type 0} (event_of : O → BodyEvent) (os : List O) (i : ℕ) (d : O) (h : i < length os) where
  ahead : {p : SlotPairState} {r : BoundedList Finding} → CanHold (map event_of (drop i os)) p r → CanHold (event_of (get_or os i d) ∷ map event_of (drop (i + 1) os)) p r
  ahead {p} {r} m = subst (λ (xs : List O). CanHold (map event_of xs) p r) (drop_more os i d h) m

  pub holds_next : {p : SlotPairState} {r : BoundedList Finding} → CanHold (map event_of (drop i os)) p r → CanHold (event_of (get_or os i d) ∷ []) p r
  holds_next m = first_fits (ahead m)

  pub holds_on : {first p q : SlotPairState} {found r s : BoundedList Finding} → HoldsEvents (map event_of (take i os)) first found p r → CanHold (map event_of (drop i os)) p r → HoldsEvents (event_of (get_or os i d) ∷ []) p r q s
      → HoldsEvents (map event_of (take (i + 1) os)) first found q s × (i + 1 < length os → CanHold (map event_of (drop (i + 1) os)) q s)
  holds_on {first} {p} {q} {found} {r} {s} done m g = (
    subst (λ (es : List BodyEvent). HoldsEvents es first found q s) (sym (map-append event_of (take i os) (get_or os i d ∷ [])) ∙ ap (map event_of) (sym (take_more os i d h))) (one_more (ahead m) done g),
    λ more. rest_fits (ahead m) g (let l = length-map (drop (i + 1) os) event_of in let k = length-drop (i + 1) os in omega (arith, l, k, more)),
  )
