-- The calls of a stage: `before` and `after` are its events left, a list for each input to come,
-- and one for the end.
use Rattle.std.specs.Prelude.{ℕ, List, ◌++◌, length, ◌*◌, ◌≤◌, ◌≡◌}
use Rattle.gabc_places.specs.BoundedList.{BoundedList, extended_by}
use Rattle.gabc_places.specs.StageLaw.{concat_of}

-- The events of pushes of all of `xs` were added, at most `most` times as many as inputs, and the
-- rest follows them.
pub record PushesAll {I O : Type 0} (before after : List I → List (List O)) (xs : List I) (most : ℕ) (old new : BoundedList O) : Type 0 where
  pub events : List (List O)
  pub out : new ≡ extended_by old (concat_of events)
  pub one_each : length events ≡ length xs
  pub few : length (concat_of events) ≤ most * length xs
  pub law : (ys : List I) → before (xs ++ ys) ≡ events ++ after ys
