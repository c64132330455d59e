-- The events of a body, if a snippet is read by its kept text, in place of the lists that are still
-- to come. Texts are read as in `specs/Events.antt`. It is no promise: that it is `body_events` is
-- proved.
use Rattle.std.specs.Prelude.{ℕ, nat_lt, List, [], ◌∷◌, map, Bool, true, false, cond, not, ◌&&◌, ◌==◌, Option, Some, None}
use Rattle.std.specs.List.{list_any}
use Rattle.gabc_places.specs.declared.place.Place.{Place}
use Rattle.gabc_places.specs.declared.place.Char.{Char}
use Rattle.gabc_text.specs.declared.text_event.TextEvent.{TextEvent}
use Rattle.gabc_notes.specs.declared.stage.NoteEvent.{NoteEvent}
use Rattle.gabc_body.specs.declared.events.BodyEvent.{BodyEvent}
use Rattle.gabc_body.specs.declared.events.BodyEvent.TheVariants.{Text}
use Rattle.gabc_body.specs.Events.{PartAhead, is_text_end, note_event, first_list, other_lists, Texts, next_line, after_mark}
use Rattle.gabc_body.specs.Events as emitting
use Rattle.gabc_notes.specs.KeptNotes.{fate_in_notes}
use Rattle.gabc_nabc.specs.KeptNabc.{fate_in_nabc}
use Rattle.gabc_notes.specs.witness.NotesByKept as notes
use Rattle.gabc_nabc.specs.witness.NabcByKept as nabc

-- the kept text of a snippet, the place of its open bracket, and whether a comment is open
pub record SnippetState : Type 0 where
  pub kept : List ℕ
  pub inner : Place
  pub comment : Bool

abbrev pub fresh : SnippetState
fresh = record { kept = []; inner = record { line = 0; column = 0 }; comment = false }

-- the events of a character, and the state after it, unless the snippet ends
abbrev pub notes_step : Bool → ℕ → SnippetState → Char → List NoteEvent × Option SnippetState
notes_step split macros s x =
    let fate = fate_in_notes split s.kept x.c in
    cond (s.comment && not (x.c == 10)) ([], Some (record { kept = s.kept; inner = s.inner; comment = true }))
    (notes.emitted_by macros fate s.kept s.inner x, cond (notes.ends fate) None (Some (record { kept = notes.kept_by fate s.kept x.c; inner = notes.inner_by fate s.kept s.inner x.place; comment = notes.opens fate })))

abbrev pub nabc_step : SnippetState → Char → List NoteEvent × Option SnippetState
nabc_step s x =
    let fate = fate_in_nabc s.kept x.c in
    cond s.comment ([], Some (record { kept = s.kept; inner = s.inner; comment = not (x.c == 10) }))
    (nabc.emitted_by fate s.kept x, cond (notes.ends fate) None (Some (record { kept = notes.kept_by fate s.kept x.c; inner = s.inner; comment = notes.opens fate })))

abbrev pub step : ℕ → ℕ → ℕ → SnippetState → Char → List NoteEvent × Option SnippetState
step lines macros line s x = cond (line == 0) (notes_step (nat_lt 0 lines) macros s x) (nabc_step s x)

-- the lists of a snippet in that state
abbrev pub lists_of : ℕ → ℕ → ℕ → SnippetState → List Char → List (List NoteEvent)
lists_of lines macros line s xs = cond (line == 0) (notes.events_past (nat_lt 0 lines) macros s.kept s.inner s.comment xs) (nabc.events_past s.kept s.comment xs)

-- a part: of a snippet its line, the place of the `(`, and its state
pub data PartRead : Type 0 where
  InComment : PartRead
  InText : List (List TextEvent) → PartRead
  InNotes : ℕ → Place → SnippetState → PartRead

abbrev pub ahead : ℕ → ℕ → PartRead → List Char → PartAhead
ahead lines macros InComment xs = emitting.InComment
ahead lines macros (InText lists) xs = emitting.InText lists
ahead lines macros (InNotes line opened s) xs = emitting.InNotes line opened (lists_of lines macros line s xs)

abbrev pub text_part : Texts → Place → List Char → PartRead
text_part texts at xs = InText (texts at xs)

-- after the mark the next snippet, or a text
abbrev pub past_mark : Texts → ℕ → ℕ → Place → Char → List Char → PartRead
past_mark texts lines line opened x xs = cond (x.c == 124) (InNotes (next_line lines line) opened fresh) (text_part texts (after_mark x.place) xs)

abbrev pub past_notes : Texts → ℕ → ℕ → Place → Char → List Char → Option SnippetState → PartRead
past_notes texts lines line opened x xs None = past_mark texts lines line opened x xs
past_notes texts lines line opened x xs (Some s) = InNotes line opened s

-- the LF that ends the comment before the body is the first character of a text
abbrev pub part_at : Texts → PartRead → Char → List Char → PartRead
part_at texts InComment x xs = cond (x.c == 10) (text_part texts x.place (x ∷ xs)) InComment
part_at texts part x xs = part

abbrev pub emitted : ℕ → ℕ → PartRead → Char → List BodyEvent
emitted lines macros InComment x = []
emitted lines macros (InText lists) x = map (λ (o : TextEvent). Text o) (first_list lists)
emitted lines macros (InNotes line opened s) x = map (note_event line opened) (step lines macros line s x).0

abbrev pub part_after : Texts → ℕ → ℕ → PartRead → Char → List Char → PartRead
part_after texts lines macros InComment x xs = InComment
part_after texts lines macros (InText lists) x xs = cond (list_any is_text_end (first_list lists)) (InNotes 0 x.place fresh) (InText (other_lists lists))
part_after texts lines macros (InNotes line opened s) x xs = past_notes texts lines line opened x xs (step lines macros line s x).1

abbrev pub events_by : Texts → ℕ → ℕ → PartRead → List Char → List (List BodyEvent)
events_by texts lines macros part [] = emitting.events_at_end (ahead lines macros part []) ∷ []
events_by texts lines macros part (x ∷ xs) =
    emitted lines macros (part_at texts part x xs) x ∷ events_by texts lines macros (part_after texts lines macros (part_at texts part x xs) x xs) xs
