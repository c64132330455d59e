-- The items of a list by the places where they begin and end.
use Rattle.std.specs.Prelude.{List, map, slice_range, length}
use Rattle.gabc_patterns.specs.LongestItems.{IsReadingBy}
use Rattle.gabc_patterns.specs.Items.{ItemSpan, FollowOn}

-- the kind of a piece, and its part of the list
abbrev pub item_in : {K X : Type 0} → List X → ItemSpan K → K × List X
item_in t i = (i.0, slice_range t i.1 i.2)

-- the pieces are the items of the list
pub record AreItemSpans {K X : Type 0} (Has : K → List X → Type 0) (t : List X) (items : List (ItemSpan K)) : Type 0 where
  pub reads : IsReadingBy Has (map (item_in t) items) t
  pub joined : FollowOn 0 items (length t)
