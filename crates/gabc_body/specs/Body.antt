-- The content of a body, by its lists of events: one for each character, and one for the end. An
-- output in the list of a character becomes known at this character. In these definitions `before`
-- are the events so far, the nearest first.
use Rattle.std.specs.Prelude.{ℕ, ◌+◌, ◌||◌, ◌&&◌, not, nat_lt, List, [], ◌∷◌, ◌++◌, Bool, true, false, cond, length, Option, Some, None, is_some}
use Rattle.std.specs.List.{list_any}
use Rattle.std.specs.Option.{option_map}
use Rattle.gabc_places.specs.declared.code.Code.{Code}
use Rattle.gabc_places.specs.declared.code.Code.TheVariants.{W9, W11, F5, F6, F7}
use Rattle.gabc_places.specs.declared.code.Finding.{Finding}
use Rattle.gabc_places.specs.declared.code.Fault.{Fault}
use Rattle.gabc_places.specs.declared.limits.Limits.{Limits}
use Rattle.gabc_places.specs.declared.place.Char.{Char}
use Rattle.gabc_places.specs.declared.place.Place.{Place}
use Rattle.gabc_places.specs.StageLaw.{concat_of}
use Rattle.gabc_text.specs.TextView.{ViewContent}
use Rattle.gabc_text.specs.declared.text_event.TextEnd.TheVariants as text_end
use Rattle.gabc_text.specs.declared.text_event.TextEvent.TheVariants as text
use Rattle.gabc_notes.specs.declared.stage.NoteEnd.TheVariants as note_end
use Rattle.gabc_notes.specs.declared.stage.NoteEvent.TheVariants as note
use Rattle.gabc_body.specs.declared.events.BodyEvent.{BodyEvent}
use Rattle.gabc_body.specs.declared.events.BodyEvent.TheVariants as event
use Rattle.gabc_body.specs.declared.snippets.Snippet.{Snippet}
use Rattle.gabc_body.specs.declared.ending.InputEnding.{InputEnding}
use Rattle.gabc_body.specs.declared.ending.InputEnding.TheVariants.{Whole, Broken, At}
use Rattle.gabc_body.specs.declared.body_result.BodyResult.{BodyResult}
use Rattle.gabc_body.specs.Syllable.{UnplacedSyllable, since_close, kept_of, view_of, all_syllables, is_eu, is_nlba}
use Rattle.gabc_body.specs.Canonical.{canonicals, canonical_bytes, with_positions}

-- ---- the limits

abbrev pub is_longer : ℕ → List ℕ → Bool
is_longer limit bytes = nat_lt limit (length bytes)

-- F5: the kept text of the current syllable, or the kept or canonical text of one of these
-- syllables, is longer than a syllable may be
abbrev pub is_over : ℕ → List UnplacedSyllable → List ℕ → Bool
is_over limit made kept =
    is_longer limit kept
    || (list_any (λ (m : UnplacedSyllable). is_longer limit m.kept) made
    || list_any (λ text. is_longer limit text) (canonicals true made))

abbrev pub is_none : {A : Type 0} → List A → Bool
is_none [] = true
is_none (x ∷ xs) = false

-- F7: the canonical file of these syllables, with its last LF, is longer than the input may be;
-- `head` is the number of bytes of its headers
abbrev pub is_full : ℕ → ℕ → List UnplacedSyllable → Bool
is_full limit head made = not (is_none made) && nat_lt limit (head + canonical_bytes made + 1)

-- the code of the limit that is passed, if one is; of two at one point, the lower one
abbrev pub code_by : Limits → ℕ → List UnplacedSyllable → List ℕ → Option Code
code_by limits head made kept = cond (is_over limits.syllable made kept) (Some F5) (cond (is_full limits.input head made) (Some F7) None)

-- the code of the limit that is passed after these events, if one is
abbrev pub code_at : Limits → ℕ → List BodyEvent → Option Code
code_at limits head before = code_by limits head (all_syllables before) (kept_of (since_close before))

-- ---- the stop

-- the events so far, with the next ones
abbrev pub events_onto : List BodyEvent → List BodyEvent → List BodyEvent
events_onto [] before = before
events_onto (t ∷ now) before = events_onto now (t ∷ before)

-- the events before the stop, the fault that stops the reading at a character, and the events of
-- the end
pub record EventsToStop : Type 0 where
  pub before : List BodyEvent
  pub fault : Option Fault
  pub last : List BodyEvent

abbrev pub fault_at : Place → Code → Fault
fault_at place code = record { place = place; code = code }

abbrev pub stopped_events : Option Code → Place → List BodyEvent → EventsToStop → EventsToStop
stopped_events (Some code) place before later = record { before = before; fault = Some (fault_at place code); last = [] }
stopped_events None place before later = later

-- The stop is the first point at which a limit is passed. Events that have their point there are
-- not emitted.
abbrev pub events_to_stop : Limits → ℕ → List BodyEvent → List Char → List (List BodyEvent) → EventsToStop
events_to_stop limits head before [] lists = record { before = before; fault = None; last = concat_of lists }
events_to_stop limits head before (x ∷ xs) [] = record { before = before; fault = None; last = [] }
events_to_stop limits head before (x ∷ xs) (now ∷ lists) =
    stopped_events (code_at limits head (events_onto now before)) x.place before (events_to_stop limits head (events_onto now before) xs lists)

-- ---- the findings

abbrev pub findings_with : List Finding → BodyEvent → List Finding
findings_with found (event.Text (text.Found f)) = found ++ f ∷ []
findings_with found (event.Notes line (note.Found f)) = found ++ f ∷ []
findings_with found _ = found

abbrev pub findings_of : List BodyEvent → List Finding
findings_of [] = []
findings_of (t ∷ before) = findings_with (findings_of before) t

-- ---- the end

-- the innermost bracket that the end of the input leaves open
abbrev pub cut_with : Option Place → BodyEvent → Option Place
cut_with was (event.Text (text.Ended (text_end.Cut place))) = Some place
cut_with was (event.Notes line (note.Ended (note_end.Cut place) n)) = Some place
cut_with was _ = was

abbrev pub cut_of : List BodyEvent → Option Place
cut_of [] = None
cut_of (t ∷ before) = cut_with (cut_of before) t

-- a last text with a piece, a centre or a translation is a syllable
abbrev pub has_text : ViewContent → Bool
has_text view = not (is_none view.pieces) || (is_some view.centre || is_some view.translation)

abbrev pub has_last : List BodyEvent → Bool
has_last before = has_text (view_of (since_close before))

-- its notes are one empty snippet after its kept text
abbrev pub empty_snippet : List ℕ → Snippet
empty_snippet kept = record { line = 0; span = record { from = length kept; to = length kept } }

abbrev pub last_syllable : List BodyEvent → UnplacedSyllable
last_syllable before = record {
  text = view_of (since_close before);
  kept = kept_of (since_close before);
  snippets = empty_snippet (kept_of (since_close before)) ∷ [];
  eu = is_eu before;
  nlba = is_nlba before;
}

abbrev pub all_units : List BodyEvent → List UnplacedSyllable
all_units before = cond (has_last before) (all_syllables before ++ last_syllable before ∷ []) (all_syllables before)

-- the findings of the end, at this place: a text without notes, and an open span
abbrev pub found_at_end : Place → List BodyEvent → List Finding
found_at_end at before =
    cond (has_last before) (record { place = at; code = W9 } ∷ []) []
    ++ cond (is_eu before || is_nlba before) (record { place = at; code = W11 } ∷ []) []

-- the fault of the end, at this place
abbrev pub fault_of_end : Limits → ℕ → Place → List BodyEvent → Option Place → Option Fault
fault_of_end limits head at before (Some place) = Some (fault_at place F6)
fault_of_end limits head at before None = option_map (fault_at at) (code_by limits head (all_units before) (kept_of (since_close before)))

-- ---- the body

-- the content of a body that is stopped, with these findings of the headers
abbrev pub result_stopped : List Finding → List BodyEvent → Option Fault → BodyResult
result_stopped found before fault = record { syllables = with_positions (all_syllables before); findings = found ++ findings_of before; fault = fault }

abbrev pub result_whole : List Finding → Place → List BodyEvent → BodyResult
result_whole found at before = record {
  syllables = with_positions (all_units before);
  findings = found ++ (findings_of before ++ found_at_end at before);
  fault = None;
}

-- the fault of the end, if there is one, hides the events that have their point at the end
abbrev pub result_by_fault : List Finding → Place → List BodyEvent → List BodyEvent → Option Fault → BodyResult
result_by_fault found at before all (Some fault) = result_stopped found before (Some fault)
result_by_fault found at before all None = result_whole found at all

abbrev pub result_at_end : Limits → ℕ → List Finding → Place → InputEnding → List BodyEvent → List BodyEvent → BodyResult
result_at_end limits head found at Whole before all = result_by_fault found at before all (fault_of_end limits head at all (cut_of all))
result_at_end limits head found at Broken before all = result_stopped found before None
result_at_end limits head found at (At fault) before all = result_stopped found before (Some fault)

abbrev pub result_by : Limits → ℕ → List Finding → Place → InputEnding → List BodyEvent → List BodyEvent → Option Fault → BodyResult
result_by limits head found at ending before last (Some fault) = result_stopped found before (Some fault)
result_by limits head found at ending before last None = result_at_end limits head found at ending before (events_onto last before)

-- The content of a body of these characters, which have these lists of events, and whose end is at
-- this place. `head` is the number of bytes of the canonical headers with `%%`, and `found` has the
-- findings of the headers.
abbrev pub body_of : Limits → ℕ → List Finding → Place → InputEnding → List Char → List (List BodyEvent) → BodyResult
body_of limits head found at ending xs lists =
    let r = events_to_stop limits head [] xs lists in
    result_by limits head found at ending r.before r.last r.fault
