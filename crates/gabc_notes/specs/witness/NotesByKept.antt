-- The events of a snippet, by its kept text, whether a comment is open, and the place of the
-- bracket that is open. It is no promise: that it is `note_events` is proved.
use Rattle.std.specs.Prelude.{ℕ, List, [], ◌∷◌, ◌++◌, Bool, true, false, cond, not, ◌&&◌, ◌==◌, Some, None}
use Rattle.gabc_places.specs.Fate.{Fate, Keep, Comment, Ends, LeaveOut}
use Rattle.gabc_places.specs.StageLaw.{silence}
use Rattle.gabc_places.specs.declared.code.Code.{Code}
use Rattle.gabc_places.specs.declared.code.Code.TheVariants.{W8}
use Rattle.gabc_places.specs.declared.place.Char.{Char}
use Rattle.gabc_places.specs.declared.place.Place.{Place}
use Rattle.gabc_patterns.specs.Reads.{whole_front}
use Rattle.gabc_notes.specs.Table.{gabc}
use Rattle.gabc_notes.specs.Events.{finding_event, end_by_mark, bytes_of}
use Rattle.gabc_notes.specs.KeptNotes.{in_raw, fate_in_notes, found_in_notes, found_at_end}
use Rattle.gabc_notes.specs.declared.stage.NoteEnd.TheVariants.{Cut}
use Rattle.gabc_notes.specs.declared.stage.NoteEvent.{NoteEvent}
use Rattle.gabc_notes.specs.declared.stage.NoteEvent.TheVariants.{Kept, Ended}

-- a macro is found at the bracket that opened it, all else at its character
abbrev pub place_by : Code → Place → Place → Place
place_by W8 inner here = inner
place_by code inner here = here

-- these codes as findings
abbrev pub all_found : List Code → Place → Place → List NoteEvent
all_found [] inner here = []
all_found (code ∷ found) inner here = finding_event (place_by code inner here) code ∷ all_found found inner here

-- the events of a character of this fate
abbrev pub emitted_by : ℕ → Fate → List ℕ → Place → Char → List NoteEvent
emitted_by macros Keep kept inner x = Kept x ∷ all_found (found_in_notes macros (kept ++ x.c ∷ [])) inner x.place
emitted_by macros Comment kept inner x = []
emitted_by macros Ends kept inner x = all_found (found_at_end kept) inner x.place ++ Ended (end_by_mark x.c) (bytes_of (whole_front gabc kept)) ∷ []
emitted_by macros (LeaveOut None) kept inner x = []
emitted_by macros (LeaveOut (Some code)) kept inner x = finding_event x.place code ∷ []

-- the text kept then
abbrev pub kept_by : Fate → List ℕ → ℕ → List ℕ
kept_by Keep kept c = kept ++ c ∷ []
kept_by _ kept c = kept

-- the place of the last character that is kept outside raw: inside raw, of the bracket that opened
-- it
abbrev pub inner_by : Fate → List ℕ → Place → Place → Place
inner_by Keep kept inner here = cond (in_raw kept) inner here
inner_by _ kept inner here = inner

-- whether a comment is open then, and whether the snippet has ended
abbrev pub opens : Fate → Bool
opens Comment = true
opens _ = false

abbrev pub ends : Fate → Bool
ends Ends = true
ends _ = false

-- The events of these characters, a list for each, and of their end. A comment continues up to an
-- LF.
abbrev pub events_past : Bool → ℕ → List ℕ → Place → Bool → List Char → List (List NoteEvent)
events_past split macros kept inner comment [] = (Ended (Cut (cond (in_raw kept) inner (record { line = 0; column = 0 }))) (bytes_of kept) ∷ []) ∷ []
events_past split macros kept inner comment (x ∷ xs) =
    let fate = fate_in_notes split kept x.c in
    cond (comment && not (x.c == 10)) ([] ∷ events_past split macros kept inner true xs)
    (emitted_by macros fate kept inner x ∷ cond (ends fate) (silence xs) (events_past split macros (kept_by fate kept x.c) (inner_by fate kept inner x.place) (opens fate) xs))
