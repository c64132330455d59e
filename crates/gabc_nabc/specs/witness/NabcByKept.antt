-- The events of an NABC snippet, by its kept text and whether a comment is open. It is no promise:
-- that it is `nabc_events` is proved.
use Rattle.std.specs.Prelude.{ℕ, List, [], ◌∷◌, ◌++◌, Bool, true, false, cond, not, ◌==◌, Some, None}
use Rattle.gabc_places.specs.Fate.{Fate, Keep, Comment, Ends, LeaveOut}
use Rattle.gabc_places.specs.StageLaw.{silence}
use Rattle.gabc_places.specs.declared.place.Char.{Char}
use Rattle.gabc_patterns.specs.Reads.{whole_front}
use Rattle.gabc_notes.specs.Events.{finding_event, end_by_mark}
use Rattle.gabc_notes.specs.witness.NotesByKept.{all_found, kept_by, opens, ends}
use Rattle.gabc_notes.specs.declared.stage.NoteEnd.TheVariants.{Cut}
use Rattle.gabc_notes.specs.declared.stage.NoteEvent.{NoteEvent}
use Rattle.gabc_notes.specs.declared.stage.NoteEvent.TheVariants.{Kept, Ended}
use Rattle.gabc_nabc.specs.Table.{nabc}
use Rattle.gabc_nabc.specs.Events.{bytes_in}
use Rattle.gabc_nabc.specs.KeptNabc.{fate_in_nabc, found_in_nabc, found_at_end}

-- the events of a character of this fate
abbrev pub emitted_by : Fate → List ℕ → Char → List NoteEvent
emitted_by Keep kept x = Kept x ∷ all_found (found_in_nabc kept x.c) x.place x.place
emitted_by Comment kept x = []
emitted_by Ends kept x = all_found (found_at_end kept) x.place x.place ++ Ended (end_by_mark x.c) (bytes_in (whole_front nabc kept)) ∷ []
emitted_by (LeaveOut None) kept x = []
emitted_by (LeaveOut (Some code)) kept x = finding_event x.place code ∷ []

-- The events of these characters, a list for each, and of their end. A comment continues up to an
-- LF.
abbrev pub events_past : List ℕ → Bool → List Char → List (List NoteEvent)
events_past kept comment [] = (Ended (Cut (record { line = 0; column = 0 })) (bytes_in kept) ∷ []) ∷ []
events_past kept true (x ∷ xs) = [] ∷ events_past kept (not (x.c == 10)) xs
events_past kept false (x ∷ xs) =
    let fate = fate_in_nabc kept x.c in
    emitted_by fate kept x ∷ cond (ends fate) (silence xs) (events_past (kept_by fate kept x.c) (opens fate) xs)
