-- A note before any clef. Of the items of all GABC snippets that have ended, in order, the first
-- that is a note or a clef is a note: this is found with the mark that ends the snippet of this
-- note. The events of a score are those of its body, and after them this finding.
--
-- In these definitions `before` are the events so far, the nearest first.
use Rattle.std.specs.Prelude.{ℕ, ◌==◌, List, [], ◌∷◌, ◌++◌, map, Bool, true, false, cond, Option, Some, None}
use Rattle.std.specs.List.{flat_map}
use Rattle.gabc_places.specs.declared.code.Code.TheVariants.{W12}
use Rattle.gabc_places.specs.declared.code.Finding.{Finding}
use Rattle.gabc_places.specs.declared.place.Char.{Char}
use Rattle.gabc_places.specs.declared.place.Place.{Place}
use Rattle.gabc_notes.specs.FirstNoteOrClef.{first_note_or_clef}
use Rattle.gabc_notes.specs.Items.{items_of}
use Rattle.gabc_notes.specs.declared.item.ItemKind.{ItemKind}
use Rattle.gabc_notes.specs.declared.item.ItemKind.TheVariants.{Note}
use Rattle.gabc_notes.specs.declared.stage.NoteEnd.TheVariants.{Next, Close}
use Rattle.gabc_notes.specs.declared.stage.NoteEvent.TheVariants as note
use Rattle.gabc_body.specs.declared.events.BodyEvent.{BodyEvent}
use Rattle.gabc_body.specs.declared.events.BodyEvent.TheVariants as event
use Rattle.gabc_body.specs.Body.{events_onto}
use Rattle.gabc_body.specs.Events.{body_events}
use Rattle.gabc_body.specs.Syllable.{since_close, prefix_of, part_of}

-- the kept texts of the GABC snippets that have ended, in order, each without an unfinished end
abbrev pub gabc_with : List (List ℕ) → List ℕ → BodyEvent → List (List ℕ)
gabc_with ended part (event.Notes line (note.Ended Next n)) = cond (line == 0) (ended ++ prefix_of n part ∷ []) ended
gabc_with ended part (event.Notes line (note.Ended Close n)) = cond (line == 0) (ended ++ prefix_of n part ∷ []) ended
gabc_with ended part _ = ended

abbrev pub gabc_ended : List BodyEvent → List (List ℕ)
gabc_ended [] = []
gabc_ended (t ∷ before) = gabc_with (gabc_ended before) (part_of (since_close before)) t

-- which comes first in them, a note or a clef
abbrev pub first_of : List BodyEvent → Option ItemKind
first_of before = first_note_or_clef (flat_map (λ kept. items_of kept) (gabc_ended before))

-- neither had come, and a note comes first now
abbrev pub is_first_note : Option ItemKind → Option ItemKind → Bool
is_first_note None (Some Note) = true
is_first_note was now = false

-- the finding of this, at this place, if so
abbrev pub found_first : Option ItemKind → Option ItemKind → Place → List Finding
found_first was now place = cond (is_first_note was now) (record { place = place; code = W12 } ∷ []) []

-- the events of a score at a character, by those of its body
abbrev pub with_first : List BodyEvent → Char → List BodyEvent → List BodyEvent
with_first before x now = now ++ map (λ f. event.Notes 0 (note.Found f)) (found_first (first_of before) (first_of (events_onto now before)) x.place)

-- the events of a score for these characters and the end, by the lists of its body
abbrev pub with_first_each : List BodyEvent → List Char → List (List BodyEvent) → List (List BodyEvent)
with_first_each before [] lists = lists
with_first_each before (x ∷ xs) [] = []
with_first_each before (x ∷ xs) (now ∷ lists) = with_first before x now ∷ with_first_each (events_onto (with_first before x now) before) xs lists

-- the events of a score for the characters of its body, with this number of NABC lines and the
-- macros of these bits
abbrev pub score_events : ℕ → ℕ → List Char → List (List BodyEvent)
score_events lines macros xs = with_first_each [] xs (body_events lines macros xs)
