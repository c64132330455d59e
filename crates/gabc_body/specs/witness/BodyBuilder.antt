-- The builder of a body, at a point and at the end.
use Rattle.std.specs.Prelude.{◌+◌, ◌||◌, ◌&&◌, not, nat_lt, List, [], ◌∷◌, ◌++◌, Bool, cond, Option, Some, None}
use Rattle.std.specs.Option.{option_map}
use Rattle.gabc_places.specs.declared.code.Code.{Code}
use Rattle.gabc_places.specs.declared.code.Code.TheVariants.{W9, W11, F5, F6, F7}
use Rattle.gabc_places.specs.declared.code.Finding.{Finding}
use Rattle.gabc_places.specs.declared.limits.Limits.{Limits}
use Rattle.gabc_places.specs.declared.place.Place.{Place}
use Rattle.gabc_places.specs.declared.code.Fault.{Fault}
use Rattle.gabc_places.specs.BoundedList.{BoundedList}
use Rattle.gabc_body.specs.declared.events.BodyEvent.{BodyEvent}
use Rattle.gabc_body.specs.Body.{is_longer, is_none, events_onto, findings_of, fault_at}
use Rattle.gabc_body.specs.witness.Gatherer.{Gathered, with_event}

-- ---- the events of a point

abbrev pub with_all : Gathered → List BodyEvent → Gathered
with_all g [] = g
with_all g (t ∷ now) = with_all (with_event g t) now

-- the findings of a point, with those of these events
abbrev pub with_found : BoundedList Finding → List BodyEvent → BoundedList Finding
with_found r now = record r { items = r.items ++ findings_of (events_onto now []) }

-- the code of the limit that is passed, if one is
abbrev pub code_in : Limits → Gathered → Option Code
code_in limits g =
    cond (is_longer g.limit g.builder.kept || g.over) (Some F5)
    (cond (not (is_none g.made) && nat_lt limits.input (g.total + 1)) (Some F7) None)

-- ---- the end

abbrev pub end_fault_by : Limits → Place → Gathered → Option Place → Option Fault
end_fault_by limits at g (Some place) = Some (fault_at place F6)
end_fault_by limits at g None = option_map (fault_at at) (code_in limits g)

abbrev pub end_fault : Limits → Place → Gathered → Option Fault
end_fault limits at g = end_fault_by limits at g g.cut

abbrev pub end_findings : Place → Bool → Bool → List Finding
end_findings at has_last is_open =
    cond has_last (record { place = at; code = W9 } ∷ []) []
    ++ cond is_open (record { place = at; code = W11 } ∷ []) []
