-- The events of a header stage: for each character those that the text with it has more than the
-- text before it.
use Rattle.std.specs.Prelude.{ℕ, ◌+◌, List, [], ◌∷◌, ◌++◌, Bool, true, false, if◌then◌else◌, length, take, drop, map, Result, Ok, Err}
use Rattle.gabc_places.specs.declared.place.Char.{Char}
use Rattle.gabc_places.specs.declared.code.Fault.{Fault}
use Rattle.gabc_headers.specs.declared.heads.Heads.{Heads}
use Rattle.gabc_headers.specs.declared.heads.HeadFault.{HeadFault}
use Rattle.gabc_headers.specs.declared.head_event.HeadEvent.{HeadEvent}
use Rattle.gabc_headers.specs.declared.head_event.HeadEvent.TheVariants.{Found, Stop, Heads as heads_event, Body, End}
use Rattle.gabc_headers.specs.Book.{nabc_lines_of, macros_of}
use Rattle.gabc_headers.specs.Canonical.{canonical_heads}
use Rattle.gabc_headers.specs.Heads.{head_len}
use Rattle.gabc_places.specs.Place.{placed_characters, placed_characters_after}
use Rattle.gabc_places.specs.StageLaw.{concat_of}
use Rattle.gabc_headers.specs.Lines.{bytes_len}

-- the event of the line `%%`
abbrev pub event_of_book : List (List ℕ × List ℕ) → HeadEvent
event_of_book book = heads_event (nabc_lines_of book) (macros_of book) (bytes_len (canonical_heads book))

-- a stop or the end ends a stage
abbrev pub is_last_event : HeadEvent → Bool
is_last_event (Stop fault) = true
is_last_event End = true
is_last_event event = false

-- ---- a stage

-- the characters of a text as they come in, after this prefix
abbrev pub inputs_after : List ℕ → List ℕ → List (Result Char Fault)
inputs_after prefix t = map (λ c. Ok c) (placed_characters_after prefix t)

-- the characters after the `%%`
abbrev pub body_characters : List ℕ → List Char
body_characters t = drop (head_len t + 2) (placed_characters t)

-- The events of headers that are read whole, and of the characters after them; or the findings
-- before their stop, and the stop.
abbrev pub events_of_heads : List ℕ → Result Heads HeadFault → List HeadEvent
events_of_heads t (Ok heads) = map (λ f. Found f) heads.findings ++ event_of_book heads.book ∷ (map (λ c. Body c) (body_characters t) ++ End ∷ [])
events_of_heads t (Err stopped) = map (λ f. Found f) stopped.findings ++ Stop stopped.fault ∷ []

-- The events of a text that breaks off: neither its end nor a stop at this end.
abbrev pub events_of_broken : List ℕ → Result Heads HeadFault → List HeadEvent
events_of_broken t (Ok heads) = map (λ f. Found f) heads.findings ++ event_of_book heads.book ∷ map (λ c. Body c) (body_characters t)
events_of_broken t (Err stopped) = map (λ f. Found f) stopped.findings ++ (if stopped.at_end then [] else Stop stopped.fault ∷ [])

-- The events of a text that a fault stops. This fault takes the place of one that has the end as
-- its point.
abbrev pub events_of_stopped : Fault → List ℕ → Result Heads HeadFault → List HeadEvent
events_of_stopped fault t (Ok heads) = map (λ f. Found f) heads.findings ++ event_of_book heads.book ∷ (map (λ c. Body c) (body_characters t) ++ Stop fault ∷ [])
events_of_stopped fault t (Err stopped) = map (λ f. Found f) stopped.findings ++ Stop (if stopped.at_end then fault else stopped.fault) ∷ []

-- the events of these inputs, whose end has come or not: the list of the end is the last one
abbrev pub emitted_by : {I O : Type 0} → Bool → List I → List (List O) → List O
emitted_by true xs lists = concat_of lists
emitted_by false xs lists = concat_of (take (length xs) lists)
