-- The events that a decoder has left. Nobody has to believe it: a decoder's contract states it of a
-- fresh one.
use Rattle.std.specs.Prelude.{ℕ, ◌+◌, List, [], ◌∷◌, ◌++◌, true, not, Result, Ok, Err, ◌==◌, ◌&&◌, if◌then◌else◌}
use Rattle.gabc_places.specs.declared.place.Char.{Char}
use Rattle.gabc_places.specs.declared.code.Code.{Code}
use Rattle.gabc_places.specs.declared.code.Code.TheVariants.{F1, F7}
use Rattle.gabc_places.specs.declared.code.Fault.{Fault}
use Rattle.gabc_places.specs.declared.decoded.Tail.{Tail}
use Rattle.gabc_places.specs.declared.decoded.Tail.TheVariants.{Nothing, Part, Wrong}
use Rattle.gabc_places.specs.Place.{next_place}
use Rattle.gabc_places.specs.Text.{is_left_out, read_as, utf8_prefix_of, tail_of}
use Rattle.gabc_places.specs.DecoderMachine.{DecoderState, is_unfinished}

-- the events of a call, and the decoder after it
pub record DecoderStep : Type 0 where
  pub events : List (Result Char Fault)
  pub state : DecoderState

abbrev pub stop_with : Code → DecoderState → DecoderStep
stop_with code s = record { events = Err (record { place = s.place; code = code }) ∷ []; state = record s { ended = true } }

-- the step with which the character c is whole
abbrev pub take_character : ℕ → DecoderState → DecoderStep
take_character c s = if is_left_out (s.previous, c)
    then record { events = []; state = record s { previous = c } }
    else record {
      events = Ok (record { c = read_as c; place = s.place }) ∷ [];
      state = record s { place = next_place s.place (read_as c); previous = c };
    }

-- the step with which these bytes are pending, and begin with these characters: with none, they are
-- a part of one or begin none
abbrev pub take_pending : List ℕ → List ℕ → Tail → DecoderState → DecoderStep
take_pending bytes (c ∷ cs) tail s = take_character c s
take_pending bytes [] Wrong s = stop_with F1 s
take_pending bytes [] Part s = record { events = []; state = record s { pending = bytes } }
take_pending bytes [] Nothing s = record { events = []; state = record s { pending = bytes } }

-- the step at one byte more
abbrev pub take_byte : ℕ → DecoderState → DecoderStep
take_byte x s =
    let bytes = s.pending ++ x ∷ [] in
    if s.ended then record { events = []; state = s } else
    if s.taken == s.limit then stop_with F7 s else
    take_pending bytes (utf8_prefix_of bytes) (tail_of bytes) (record s { taken = s.taken + 1; pending = [] })

abbrev pub take_end : DecoderState → DecoderStep
take_end s = if not s.ended && is_unfinished s.pending then stop_with F1 s else record { events = []; state = record s { ended = true } }

-- The events that a decoder has left for these bytes and then the end.
abbrev pub events_left : DecoderState → List ℕ → List (List (Result Char Fault))
events_left s [] = (take_end s).events ∷ []
events_left s (x ∷ xs) = (take_byte x s).events ∷ events_left (take_byte x s).state xs
