-- The outputs of a score for the events of a header stage: one list for each event, and one for
-- their end. An output is in the list of the event with which it becomes known.
--
-- In these definitions `before` are the events of the body so far, the nearest first, `now` and
-- `lists` are its next ones, as specs/Events.antt says, and `head` is the number of bytes of the
-- canonical headers with `%%`.
use Rattle.std.specs.Prelude.{ℕ, ◌-◌, List, [], ◌∷◌, ◌++◌, Bool, true, false, length, map, take, drop, Option, Some, None, Result, Ok, Err}
use Rattle.gabc_places.specs.declared.code.Code.{Code}
use Rattle.gabc_places.specs.declared.code.Finding.{Finding}
use Rattle.gabc_places.specs.declared.code.Fault.{Fault}
use Rattle.gabc_places.specs.declared.limits.Limits.{Limits}
use Rattle.gabc_places.specs.declared.place.Char.{Char}
use Rattle.gabc_places.specs.declared.place.Place.{Place}
use Rattle.gabc_places.specs.Place.{next_place}
use Rattle.gabc_places.specs.StageLaw.{concat_of, silence}
use Rattle.gabc_headers.specs.declared.heads.Heads.{Heads}
use Rattle.gabc_headers.specs.declared.heads.HeadFault.{HeadFault}
use Rattle.gabc_headers.specs.declared.head_event.HeadEvent.{HeadEvent}
use Rattle.gabc_headers.specs.declared.head_event.HeadEvent.TheVariants as head_event
use Rattle.gabc_headers.specs.Heads.{heads_of}
use Rattle.gabc_headers.specs.HeadEvents.{event_of_book}
use Rattle.gabc_body.specs.declared.events.BodyEvent.{BodyEvent}
use Rattle.gabc_body.specs.declared.ending.InputEnding.{InputEnding}
use Rattle.gabc_body.specs.declared.ending.InputEnding.TheVariants.{Whole, Broken, At}
use Rattle.gabc_body.specs.Body.{code_at, events_onto, fault_at, findings_of, found_at_end, fault_of_end, cut_of, all_units}
use Rattle.gabc_body.specs.Canonical.{with_positions}
use Rattle.gabc_body.specs.Events.{Texts, InComment, events_from, texts_by_definition}
use Rattle.gabc_body.specs.NoteBeforeClef.{with_first_each}
use Rattle.gabc_body.specs.Score.{head_fault_by}
use Rattle.gabc_body.specs.Syllable.{UnplacedSyllable, PlacedSyllable, all_syllables}
use Rattle.gabc_body.specs.SyllablesOfUnits.{body_characters}

-- An output of a score, with the syllable itself, for which the code names its slot. Nothing comes
-- after a stop or the end.
pub data ScoreOutput : Type 0 where
  Found : Finding → ScoreOutput
  Stop : Fault → ScoreOutput
  Syllable : PlacedSyllable → ScoreOutput
  End : ScoreOutput

-- ---- syllables

-- A syllable is emitted when the next one is made, for then it is known whether it ends its word;
-- the last one is emitted at the stop or the end. Until then it is pending. Of these syllables,
-- those not emitted when the first `count` were made: from the pending one on.
abbrev pub not_given : ℕ → List UnplacedSyllable → List PlacedSyllable
not_given count made = drop (count - 1) (with_positions made)

-- those of them that are emitted with the character at which these are made: all but the last,
-- which is pending
abbrev pub given_now : ℕ → List UnplacedSyllable → List PlacedSyllable
given_now count made = drop (count - 1) (take (length made - 1) (with_positions made))

abbrev pub count_made : List BodyEvent → ℕ
count_made before = length (all_syllables before)

-- ---- a character of the body, the stop and the end

abbrev pub findings_now : List BodyEvent → List Finding
findings_now now = findings_of (events_onto now [])

abbrev pub outputs_of : List Finding → List PlacedSyllable → List ScoreOutput
outputs_of findings syllables = map (λ f. Found f) findings ++ map (λ s. Syllable s) syllables

-- the outputs at a character at which no limit is passed
abbrev pub outputs_at : List BodyEvent → List BodyEvent → List ScoreOutput
outputs_at before now = outputs_of (findings_now now) (given_now (count_made before) (all_syllables (events_onto now before)))

-- the pending syllable, if there is one
abbrev pub held_output : List BodyEvent → List ScoreOutput
held_output before = outputs_of [] (not_given (count_made before) (all_syllables before))

-- the outputs at a stop
abbrev pub outputs_at_stop : List BodyEvent → Fault → List ScoreOutput
outputs_at_stop before fault = held_output before ++ Stop fault ∷ []

-- the outputs at the end, which is at this place: those of a fault, or those of a last text that is
-- closed
abbrev pub outputs_at_end : Place → List BodyEvent → List BodyEvent → Option Fault → List ScoreOutput
outputs_at_end at before now (Some fault) = outputs_at_stop before fault
outputs_at_end at before now None =
    outputs_of (findings_now now ++ found_at_end at (events_onto now before)) (not_given (count_made before) (all_units (events_onto now before)))
    ++ End ∷ []

-- ---- the body

-- the characters of the body among these, up to a stop or the end
abbrev pub characters_in : List HeadEvent → List Char
characters_in [] = []
characters_in (head_event.Body x ∷ xs) = x ∷ characters_in xs
characters_in (head_event.End ∷ xs) = []
characters_in (head_event.Stop fault ∷ xs) = []
characters_in (head_event.Found f ∷ xs) = characters_in xs
characters_in (head_event.Heads lines macros canonical ∷ xs) = characters_in xs

-- the lists from a character on, by the code of the limit that is passed at it, if one is
abbrev pub outputs_by : Option Code → Char → List BodyEvent → List BodyEvent → List HeadEvent → List (List ScoreOutput) → List (List ScoreOutput)
outputs_by (Some code) x before now xs later = outputs_at_stop before (fault_at x.place code) ∷ silence xs
outputs_by None x before now xs later = outputs_at before now ∷ later

-- The outputs after the headers, the next character of the body at this place. If the inputs just
-- cease, the source has failed.
abbrev pub body_outputs : Limits → ℕ → Place → List BodyEvent → List (List BodyEvent) → List HeadEvent → List (List ScoreOutput)
body_outputs limits head at before lists [] = held_output before ∷ []
body_outputs limits head at before (now ∷ lists) (head_event.Body x ∷ xs) =
    outputs_by (code_at limits head (events_onto now before)) x before now xs
    (body_outputs limits head (next_place x.place x.c) (events_onto now before) lists xs)
body_outputs limits head at before [] (head_event.Body x ∷ xs) = silence (head_event.Body x ∷ xs)
body_outputs limits head at before lists (head_event.End ∷ xs) =
    let all = events_onto (concat_of lists) before in
    outputs_at_end at before (concat_of lists) (fault_of_end limits head at all (cut_of all)) ∷ silence xs
body_outputs limits head at before lists (head_event.Stop fault ∷ xs) = outputs_at_stop before fault ∷ silence xs
body_outputs limits head at before lists (head_event.Found f ∷ xs) = (Found f ∷ []) ∷ body_outputs limits head at before lists xs
body_outputs limits head at before lists (head_event.Heads lines macros canonical ∷ xs) = [] ∷ body_outputs limits head at before lists xs

-- ---- the score

abbrev pub first_place : Place
first_place = record { line = 1; column = 1 }

-- The outputs from the headers on, if texts are read so: findings and the fault of the headers are
-- passed on.
abbrev pub score_outputs : Texts → Limits → List HeadEvent → List (List ScoreOutput)
score_outputs texts limits [] = [] ∷ []
score_outputs texts limits (head_event.Heads lines macros canonical ∷ xs) =
    let lists = events_from texts lines macros InComment (characters_in xs) in
    [] ∷ body_outputs limits canonical first_place [] (with_first_each [] (characters_in xs) lists) xs
score_outputs texts limits (head_event.Found f ∷ xs) = (Found f ∷ []) ∷ score_outputs texts limits xs
score_outputs texts limits (head_event.Stop fault ∷ xs) = (Stop fault ∷ []) ∷ silence xs
score_outputs texts limits (head_event.End ∷ xs) = (End ∷ []) ∷ silence xs
score_outputs texts limits (head_event.Body x ∷ xs) = [] ∷ score_outputs texts limits xs

-- ---- the inputs

-- the inputs of an ending
abbrev pub ending_events : InputEnding → List HeadEvent
ending_events Whole = head_event.End ∷ []
ending_events Broken = []
ending_events (At fault) = head_event.Stop fault ∷ []

abbrev pub stop_events : Option Fault → List HeadEvent
stop_events None = []
stop_events (Some fault) = head_event.Stop fault ∷ []

abbrev pub head_events_by : InputEnding → List ℕ → Result Heads HeadFault → List HeadEvent
head_events_by ending t (Ok heads) =
    map (λ f. head_event.Found f) heads.findings ++ event_of_book heads.book ∷ (map (λ x. head_event.Body x) (body_characters t) ++ ending_events ending)
head_events_by ending t (Err stop) = map (λ f. head_event.Found f) stop.findings ++ stop_events (head_fault_by ending stop.at_end stop.fault)

-- the events of a header stage for a text with this ending
abbrev pub head_events : Limits → InputEnding → List ℕ → List HeadEvent
head_events limits ending t = head_events_by ending t (heads_of limits t)

-- the outputs for a text with this ending, in order
abbrev pub outputs_of_text : Limits → InputEnding → List ℕ → List ScoreOutput
outputs_of_text limits ending t = concat_of (score_outputs texts_by_definition limits (head_events limits ending t))

-- the end of the inputs is not among these
abbrev pub HasNoEnd : List HeadEvent → Type 0
HasNoEnd [] = Unit {0}
HasNoEnd (head_event.End ∷ xs) = ⊥
HasNoEnd (x ∷ xs) = HasNoEnd xs

-- ---- the content of outputs

abbrev pub findings_in : List ScoreOutput → List Finding
findings_in [] = []
findings_in (Found f ∷ outputs) = f ∷ findings_in outputs
findings_in (Stop fault ∷ outputs) = findings_in outputs
findings_in (Syllable s ∷ outputs) = findings_in outputs
findings_in (End ∷ outputs) = findings_in outputs

abbrev pub syllables_in : List ScoreOutput → List PlacedSyllable
syllables_in [] = []
syllables_in (Found f ∷ outputs) = syllables_in outputs
syllables_in (Stop fault ∷ outputs) = syllables_in outputs
syllables_in (Syllable s ∷ outputs) = s ∷ syllables_in outputs
syllables_in (End ∷ outputs) = syllables_in outputs

-- the stop
abbrev pub fault_in : List ScoreOutput → Option Fault
fault_in [] = None
fault_in (Found f ∷ outputs) = fault_in outputs
fault_in (Stop fault ∷ outputs) = Some fault
fault_in (Syllable s ∷ outputs) = fault_in outputs
fault_in (End ∷ outputs) = fault_in outputs

-- whether the end is among them
abbrev pub has_end : List ScoreOutput → Bool
has_end [] = false
has_end (Found f ∷ outputs) = has_end outputs
has_end (Stop fault ∷ outputs) = has_end outputs
has_end (Syllable s ∷ outputs) = has_end outputs
has_end (End ∷ outputs) = true

-- the input has ended, and nothing stopped the reading
abbrev pub is_whole : InputEnding → Option Fault → Bool
is_whole Whole None = true
is_whole Whole (Some fault) = false
is_whole Broken fault = false
is_whole (At other) fault = false

-- a stop or the end
abbrev pub is_last : ScoreOutput → Bool
is_last (Found f) = false
is_last (Stop fault) = true
is_last (Syllable s) = false
is_last End = true
