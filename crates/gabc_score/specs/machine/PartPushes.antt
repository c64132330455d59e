-- The events of a push to a part.
use Rattle.std.specs.Prelude.{◌≡◌, ℕ, List, [], ◌∷◌, length, ◌≤◌, Bool, true}
use Rattle.gabc_places.specs.declared.place.Char.{Char}
use Rattle.gabc_body.specs.declared.events.BodyEvent.{BodyEvent}
use Rattle.gabc_body.specs.Syllable.{closes}

-- These are the events of x, at most `most`, and what is emitted from then on follows them.
pub record Emits {O : Type 0} (before after : List Char → List (List O)) (x : Char) (most : ℕ) (events : List O) : Type 0 where
  pub few : length events ≤ most
  pub law : (xs : List Char) → before (x ∷ xs) ≡ events ∷ after xs

-- These are the events of the end, at most `most`.
pub record EmitsLast {O : Type 0} (before : List Char → List (List O)) (most : ℕ) (events : List O) : Type 0 where
  pub few : length events ≤ most
  pub law : before [] ≡ events ∷ []

-- an event for which `ends` holds is the last of these
abbrev pub EndsLast : {O : Type 0} → (O → Bool) → List O → Type 0
EndsLast ends [] = Unit {0}
EndsLast ends (e ∷ es) = (ends e ≡ true → es ≡ []) × EndsLast ends es

-- the `)` that ends a syllable is the last of these
abbrev pub ClosesLast : List BodyEvent → Type 0
ClosesLast events = EndsLast closes events
