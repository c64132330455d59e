-- The part of an input that is known as its bytes come.
use Rattle.std.specs.Prelude.{ℕ, List, [], ◌∷◌, ◌++◌, map, true, false, Option, Some, None, Result, Ok, Err}
use Rattle.gabc_places.specs.declared.limits.Limits.{Limits}
use Rattle.gabc_places.specs.declared.code.Fault.{Fault}
use Rattle.gabc_places.specs.declared.place.Char.{Char}
use Rattle.gabc_places.specs.declared.decoded.Decoded.{Decoded}
use Rattle.gabc_places.specs.Place.{placed_characters}
use Rattle.gabc_places.specs.Text.{decoded_of}

abbrev pub fault_items : Option Fault → List (Result Char Fault)
fault_items None = []
fault_items (Some fault) = Err fault ∷ []

-- the characters of a text, each with its place, and then its fault
abbrev pub items_of : Decoded → List (Result Char Fault)
items_of decoded = map (λ c. Ok c) (placed_characters decoded.text) ++ fault_items decoded.fault

-- known of an input once these bytes of it have come: more may follow them
abbrev pub known_of : Limits → List ℕ → List (Result Char Fault)
known_of limits bytes = items_of (decoded_of limits false bytes)

-- known of an input that ended with these bytes
abbrev pub known_at_end : Limits → List ℕ → List (Result Char Fault)
known_at_end limits bytes = items_of (decoded_of limits true bytes)
