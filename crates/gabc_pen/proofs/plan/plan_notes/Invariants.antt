use Rattle.std.proofs.Common.{◌≡◌, ◌++◌, length}
use Rattle.gabc_pen.specs.Notes.{pitches_of_planned, pitches_of_notes}
use Rattle.gabc_pen.proofs.plan.plan_notes.Given as goal

-- with those of what is left, it will have those of all
abbrev pub invariant-loop-rest : goal.invariant-loop-rest
invariant-loop-rest l =
    pitches_of_planned l.planned.items ++ pitches_of_notes l.rest ≡ pitches_of_planned l.initial.planned.items ++ pitches_of_notes l.notes

abbrev pub decreases-loop-rest : goal.decreases-loop-rest
decreases-loop-rest l = length l.rest
