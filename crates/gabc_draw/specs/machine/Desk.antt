-- The notes and syllables that a desk shows.
use Rattle.std.specs.Prelude.{List, [], ◌∷◌, ◌++◌, cond}
use Rattle.std.specs.List.{flat_map}
use Rattle.gabc_marks.specs.Heads.{Bytes, Shown, Syllable, notes_of, pitches_of_heads}
use Rattle.gabc_draw.specs.declared.group.Group.{Group}
use Rattle.gabc_pen.specs.declared.note.Note.{Note}
use Rattle.gabc_pen.specs.Notes.{pitches_of_notes}

abbrev pub bytes_of_group : Group → Bytes
bytes_of_group g = record { begin = g.begin; end = g.end }

-- the notes and syllables that a group shows: those of the part that is made of it
abbrev pub shown_by_group : Group → List Shown
shown_by_group g =
    cond g.is_first (Syllable (bytes_of_group g) ∷ []) []
    ++ notes_of (bytes_of_group g) (pitches_of_heads g.heads.items)

abbrev pub shown_by_groups : List Group → List Shown
shown_by_groups groups = flat_map shown_by_group groups

-- the notes and syllables shown by the groups that are ended, by the one that is begun, and by the
-- notes of the current neume, which it will show
abbrev pub shown_on : List Group → Group → List Note → List Shown
shown_on groups group pending =
    shown_by_groups groups
    ++ (shown_by_group group ++ notes_of (bytes_of_group group) (pitches_of_notes pending))
