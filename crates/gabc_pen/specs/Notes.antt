-- Notes as they are drawn.
use Rattle.std.specs.Prelude.{ℕ, ◌==◌, ◌||◌, List, cond, replicate}
use Rattle.std.specs.List.{flat_map}
use Rattle.gabc_pen.specs.declared.note.Note.{Note}
use Rattle.gabc_pen.specs.declared.plan.Planned.{Planned}

-- the number of times that a note with the shape of this number sounds: bivirga and distropha
-- twice, trivirga and tristropha three times
abbrev pub times_of_shape : ℕ → ℕ
times_of_shape shape = cond (shape == 3 || shape == 7) 2 (cond (shape == 4 || shape == 8) 3 1)

abbrev pub pitches_of_note : Note → List ℕ
pitches_of_note n = replicate n.times n.pitch

abbrev pub pitches_of_notes : List Note → List ℕ
pitches_of_notes notes = flat_map pitches_of_note notes

abbrev pub pitches_of_planned : List Planned → List ℕ
pitches_of_planned planned = flat_map (λ (p : Planned). pitches_of_note p.note) planned
