-- The events of each character of a body, and of its end: one list for each.
--
-- The body begins with a comment, up to its first LF. Then comes a text, up to its `(`, then a
-- snippet of notes, up to its end; at a `|` the next snippet, at a `)` the next text. Each part is
-- read from where it begins by the definition of texts, of GABC or of NABC snippets, and its events
-- come from there to the character that ends it.
--
-- In these definitions `texts` is how a text is read. For `body_events`, the events of a body, it
-- is the definition of texts.
use Rattle.std.specs.Prelude.{ℕ, ◌+◌, nat_lt, List, [], ◌∷◌, map, Bool, true, false, ◌==◌, if◌then◌else◌}
use Rattle.std.specs.List.{list_any}
use Rattle.gabc_places.specs.Place.{saturating_next_place}
use Rattle.gabc_places.specs.declared.place.Place.{Place}
use Rattle.gabc_places.specs.declared.place.Char.{Char}
use Rattle.gabc_text.specs.declared.text_event.TextEnd.TheVariants as text_end
use Rattle.gabc_text.specs.declared.text_event.TextEvent.{TextEvent}
use Rattle.gabc_text.specs.declared.text_event.TextEvent.TheVariants as text_out
use Rattle.gabc_text.specs.Events.{codes_of, events_by_point}
use Rattle.gabc_notes.specs.declared.stage.NoteEnd.{NoteEnd}
use Rattle.gabc_notes.specs.declared.stage.NoteEnd.TheVariants as note_end
use Rattle.gabc_notes.specs.declared.stage.NoteEvent.{NoteEvent}
use Rattle.gabc_notes.specs.declared.stage.NoteEvent.TheVariants as note_out
use Rattle.gabc_notes.specs.Events as notes
use Rattle.gabc_nabc.specs.Events as nabc
use Rattle.gabc_body.specs.declared.events.BodyEvent.{BodyEvent}
use Rattle.gabc_body.specs.declared.events.BodyEvent.TheVariants.{Text, Notes}

-- The part of a body that a character is in, with the lists that the part has left: for each
-- character to come and for the end. Notes have their line and the place of their `(`.
pub data PartAhead : Type 0 where
  InComment : PartAhead
  InText : List (List TextEvent) → PartAhead
  InNotes : ℕ → Place → List (List NoteEvent) → PartAhead

-- a text has ended at its `(`
abbrev pub is_text_end : TextEvent → Bool
is_text_end (text_out.Ended text_end.Notes) = true
is_text_end out = false

-- a snippet has ended at a `|`, or at a `)`
abbrev pub is_next : NoteEvent → Bool
is_next (note_out.Ended note_end.Next kept) = true
is_next out = false

abbrev pub is_close : NoteEvent → Bool
is_close (note_out.Ended note_end.Close kept) = true
is_close out = false

-- the end of a snippet; if it is cut, at the innermost open bracket: that of the snippet, or else
-- the `(`
abbrev pub innermost : Place → NoteEnd → NoteEnd
innermost opened (note_end.Cut place) = note_end.Cut (if place.line == 0 then opened else place)
innermost opened how = how

abbrev pub note_event : ℕ → Place → NoteEvent → BodyEvent
note_event line opened (note_out.Ended how kept) = Notes line (note_out.Ended (innermost opened how) kept)
note_event line opened out = Notes line out

abbrev pub first_list : {X : Type 0} → List (List X) → List X
first_list [] = []
first_list (xs ∷ lists) = xs

abbrev pub other_lists : {X : Type 0} → List (List X) → List (List X)
other_lists [] = []
other_lists (xs ∷ lists) = lists

-- the events of the character that is in this part, or of the end
abbrev pub events_in : PartAhead → List BodyEvent
events_in InComment = []
events_in (InText lists) = map (λ (o : TextEvent). Text o) (first_list lists)
events_in (InNotes line opened lists) = map (note_event line opened) (first_list lists)

abbrev pub events_at_end : PartAhead → List BodyEvent
events_at_end InComment = Text (text_out.Ended text_end.Finished) ∷ []
events_at_end part = events_in part

-- the events of a text that begins at a place with these characters: a list for each of them, and
-- one for the end
abbrev pub Texts : Type 0
Texts = Place → List Char → List (List TextEvent)

-- the text that begins with these characters, the first of them at this place
abbrev pub text_from : Texts → Place → List Char → PartAhead
text_from texts at xs = InText (texts at xs)

-- the snippet on this line that begins with these characters: GABC or NABC
abbrev pub snippet_from : ℕ → ℕ → ℕ → Place → List Char → PartAhead
snippet_from lines macros line opened xs =
    InNotes line opened (if line == 0 then notes.note_events (nat_lt 0 lines) macros xs else nabc.nabc_events xs)

-- after the last NABC line comes GABC again
abbrev pub next_line : ℕ → ℕ → ℕ
next_line lines line = if nat_lt line lines then line + 1 else 0

-- the place after a `)`
abbrev pub after_mark : Place → Place
after_mark place = saturating_next_place place 41

-- the LF that ends the comment is the first character of a text
abbrev pub part_at : Texts → PartAhead → Char → List Char → PartAhead
part_at texts InComment x xs = if x.c == 10 then text_from texts x.place (x ∷ xs) else InComment
part_at texts part x xs = part

-- the part of the characters `xs` after `x`, if `x` is in this part
abbrev pub part_after_character : Texts → ℕ → ℕ → PartAhead → Char → List Char → PartAhead
part_after_character texts lines macros InComment x xs = InComment
part_after_character texts lines macros (InText lists) x xs =
    if list_any is_text_end (first_list lists) then snippet_from lines macros 0 x.place xs else InText (other_lists lists)
part_after_character texts lines macros (InNotes line opened lists) x xs =
    if list_any is_next (first_list lists) then snippet_from lines macros (next_line lines line) opened xs else
    if list_any is_close (first_list lists) then text_from texts (after_mark x.place) xs else
    InNotes line opened (other_lists lists)

-- the events of these characters, the first of which is in this part, and of the end
abbrev pub events_from : Texts → ℕ → ℕ → PartAhead → List Char → List (List BodyEvent)
events_from texts lines macros part [] = events_at_end part ∷ []
events_from texts lines macros part (x ∷ xs) =
    events_in (part_at texts part x xs) ∷ events_from texts lines macros (part_after_character texts lines macros (part_at texts part x xs) x xs) xs

-- the texts of a body by their definition
abbrev pub texts_by_definition : Texts
texts_by_definition at xs = events_by_point at (codes_of xs)

-- the events of the characters of a body, with this number of NABC lines and the macros of these
-- bits
abbrev pub body_events : ℕ → ℕ → List Char → List (List BodyEvent)
body_events lines macros xs = events_from texts_by_definition lines macros InComment xs
