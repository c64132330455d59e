-- A stage that was given up before the end of its inputs.
use Rattle.std.specs.Prelude.{◌≡◌, List, ◌++◌}

-- Some of these inputs were pushed, where `before` and `after` are what the stage would still emit:
-- what it emitted of them, and then what it will still emit, is what was to come.
pub record HasTaken {I O : Type 0} (before after : List I → List (List O)) (inputs : List I) : Type 0 where
  pub taken : List I
  pub left : List I
  pub inputs_are : inputs ≡ taken ++ left
  pub emitted : List (List O)
  pub law : (xs : List I) → before (taken ++ xs) ≡ emitted ++ after xs
