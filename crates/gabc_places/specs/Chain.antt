-- Two stages as one.
use Rattle.std.specs.Prelude.{ℕ, List, [], ◌∷◌, length, map, take, drop}
use Rattle.gabc_places.specs.StageLaw.{concat_of}

-- the two stages of a chain
pub record StagePair (A B : Type 0) : Type 0 where
  pub first : A
  pub second : B

-- The events of the second stage, by the inputs of the first: of each input, those for all that the
-- first emitted then; of the end, those that are left. `counts` has the number of events of the
-- first for each input, `lists` the events of the second for each of those.
abbrev pub events_by_input : {I O : Type 0} → List I → List ℕ → List (List O) → List (List O)
events_by_input [] counts lists = concat_of lists ∷ []
events_by_input (x ∷ xs) [] lists = [] ∷ events_by_input xs [] lists
events_by_input (x ∷ xs) (count ∷ counts) lists = concat_of (take count lists) ∷ events_by_input xs counts (drop count lists)

-- the events of two stages in a row, by those of each
abbrev pub chain_events : {I M O : Type 0} → (List I → List (List M)) → (List M → List (List O)) → List I → List (List O)
chain_events first second xs = events_by_input xs (map (λ events. length events) (first xs)) (second (concat_of (first xs)))
