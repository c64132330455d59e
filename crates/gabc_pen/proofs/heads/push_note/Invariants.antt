use Rattle.std.proofs.Common.{◌≡◌, ◌++◌, replicate}
use Rattle.gabc_marks.specs.Heads.{pitches_of_heads}
use Rattle.gabc_pen.proofs.heads.push_note.Given as goal

-- there is a head for each time so far
abbrev pub invariant-loop : goal.invariant-loop
invariant-loop l =
    pitches_of_heads l.heads.items ≡ pitches_of_heads l.initial.heads.items ++ replicate l.counter l.note.pitch
