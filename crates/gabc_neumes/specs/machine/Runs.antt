-- The runs of items, as the loop over items finds them.
use Rattle.std.specs.Prelude.{ℕ, List, [], ◌∷◌, Bool, false, ◌==◌, ◌&&◌, ◌||◌, nat_lt, if◌then◌else◌}
use Rattle.gabc_places.specs.declared.place.Span.{Span}
use Rattle.gabc_notes.specs.declared.item.Item.{Item}
use Rattle.gabc_neumes.specs.Elements.{is_in_element, is_in_segment}
use Rattle.gabc_neumes.specs.declared.runs.RunKind.{RunKind}
use Rattle.gabc_neumes.specs.declared.runs.RunKind.TheVariants.{Element, Segment}

-- the text is `!`, `/0` or `/!`
abbrev pub is_inner : List ℕ → Bool
is_inner (c ∷ []) = c == 33
is_inner (c ∷ d ∷ []) = (c == 47) && ((d == 48) || (d == 33))
is_inner _ = false

-- the item is part of a run of that kind
abbrev pub is_part : RunKind → List ℕ → Item → Bool
is_part Element kept i = is_in_element kept i
is_part Segment kept i = is_in_segment i

-- the run from one index up to another, if it holds any
abbrev pub run_between : ℕ → ℕ → List Span
run_between from to = if nat_lt from to then record { from = from; to = to } ∷ [] else []
