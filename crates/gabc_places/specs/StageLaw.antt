-- The laws of the calls of a stage, where `before` and `after` are its rest: a list for each input
-- to come, and one for the end.
use Rattle.std.specs.Prelude.{ℕ, List, [], ◌∷◌, ◌++◌, length, ◌≤◌, ◌≡◌, Bool, true}
use Rattle.std.specs.List.{flat_map}
use Rattle.gabc_places.specs.BoundedList.{BoundedList, extended_by}

-- the lists joined in order
abbrev pub concat_of : {T : Type 0} → List (List T) → List T
concat_of lists = flat_map (λ xs. xs) lists

-- A push of x added at most `most` outputs, the first list of the rest, and the rest from then on
-- are the remaining lists.
pub record Pushes {I O : Type 0} (before after : List I → List (List O)) (x : I) (most : ℕ) (old new : BoundedList O) : Type 0 where
  pub events : List O
  pub out : new ≡ extended_by old events
  pub few : length events ≤ most
  pub law : (xs : List I) → before (x ∷ xs) ≡ events ∷ after xs

-- The end added the last list of the rest.
pub record Finishes {I O : Type 0} (before : List I → List (List O)) (most : ℕ) (old new : BoundedList O) : Type 0 where
  pub events : List O
  pub out : new ≡ extended_by old events
  pub few : length events ≤ most
  pub law : before [] ≡ events ∷ []

-- nothing for each of these inputs, and nothing for the end
abbrev pub silence : {I O : Type 0} → List I → List (List O)
silence [] = [] ∷ []
silence (x ∷ xs) = [] ∷ silence xs

-- whatever comes, it emits nothing
abbrev pub EmitsNothing : {I O : Type 0} → (List I → List (List O)) → Type 0
EmitsNothing after = (xs : _) → concat_of (after xs) ≡ []

-- A call with outputs that end the stage added no other after the first of them, and from then on
-- the stage emits nothing.
abbrev pub StopsAtEnd : {I O : Type 0} → (O → Bool) → (List I → List (List O)) → BoundedList O → BoundedList O → Type 0
StopsAtEnd ends after old new =
    (before later : List _) (x : _) → new ≡ extended_by old (before ++ x ∷ later) → ends x ≡ true → (later ≡ []) × EmitsNothing after
