-- The notes of joined lists are those of the one and of the other.
use Rattle.std.proofs.Common.{◌≡◌, ◌++◌, List, append_assoc, append-nil}
use Rattle.std.proofs.lemmas.List.Concat.{flat_map-append}
use Rattle.gabc_marks.specs.Heads.{pitches_of_heads, pitches_shown}
use Rattle.gabc_marks.specs.declared.head.NoteHead.{NoteHead}
use Rattle.gabc_pen.specs.declared.note.Note.{Note}
use Rattle.gabc_pen.specs.declared.plan.Planned.{Planned}
use Rattle.gabc_pen.specs.Notes.{pitches_of_planned, pitches_of_note, pitches_of_notes}

pub heads-append : (a b : List NoteHead) → pitches_of_heads (a ++ b) ≡ pitches_of_heads a ++ pitches_of_heads b
heads-append a b = flat_map-append (λ (h : NoteHead). pitches_shown h.head h.pitch) a b

pub planned-append : (a b : List Planned) → pitches_of_planned (a ++ b) ≡ pitches_of_planned a ++ pitches_of_planned b
planned-append a b = flat_map-append (λ (p : Planned). pitches_of_note p.note) a b

pub notes-append : (a b : List Note) → pitches_of_notes (a ++ b) ≡ pitches_of_notes a ++ pitches_of_notes b
notes-append a b = flat_map-append pitches_of_note a b

pub ruleset joined = (heads-append, planned-append, notes-append, append_assoc, append-nil)
