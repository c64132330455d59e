-- The stop of a body: the first point at which a limit is passed. `events_to_stop` of
-- specs/Body.antt finds it.
use Rattle.std.specs.Prelude.{◌≡◌, ℕ, suc, ◌<◌, List, ◌∷◌, ◌++◌, length, take, drop, Some, None}
use Rattle.gabc_places.specs.declared.code.Code.{Code}
use Rattle.gabc_places.specs.declared.limits.Limits.{Limits}
use Rattle.gabc_places.specs.declared.place.Char.{Char}
use Rattle.gabc_places.specs.StageLaw.{concat_of}
use Rattle.gabc_body.specs.declared.events.BodyEvent.{BodyEvent}
use Rattle.gabc_body.specs.Body.{events_onto, code_at, fault_at, EventsToStop}

-- In these definitions `lists` are the events of each character and of the end, and `first` are
-- those before them, the nearest first. A point is an index of a character.

-- the events through n points
abbrev pub events_in_points : List BodyEvent → List (List BodyEvent) → ℕ → List BodyEvent
events_in_points first lists n = events_onto (concat_of (take n lists)) first

-- The reading stops at a character: there a limit is passed, and at no earlier one. The events of
-- the characters before it are emitted.
pub record StopsAt (limits : Limits) (head : ℕ) (first : List BodyEvent) (xs : List Char) (lists : List (List BodyEvent)) (r : EventsToStop) : Type 0 where
  pub prefix : List Char
  pub here : Char
  pub rest : List Char
  pub code : Code
  pub all : xs ≡ prefix ++ here ∷ rest
  pub passed : code_at limits head (events_in_points first lists (suc (length prefix))) ≡ Some code
  pub none_earlier : (n : ℕ) → n < length prefix → code_at limits head (events_in_points first lists (suc n)) ≡ None
  pub before : r.before ≡ events_in_points first lists (length prefix)
  pub fault : r.fault ≡ Some (fault_at here.place code)

-- No character stops the reading: no limit is passed at any of them. All events are emitted, and
-- after them those of the end.
pub record NeverStops (limits : Limits) (head : ℕ) (first : List BodyEvent) (xs : List Char) (lists : List (List BodyEvent)) (r : EventsToStop) : Type 0 where
  pub none : (n : ℕ) → n < length xs → code_at limits head (events_in_points first lists (suc n)) ≡ None
  pub before : r.before ≡ events_in_points first lists (length xs)
  pub last : r.last ≡ concat_of (drop (length xs) lists)
  pub fault : r.fault ≡ None
