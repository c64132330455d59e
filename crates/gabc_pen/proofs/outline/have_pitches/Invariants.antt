use Rattle.std.proofs.Common.{◌≡◌, take}
use Rattle.gabc_pen.specs.Notes.{pitches_of_planned}
use Rattle.gabc_pen.proofs.outline.have_pitches.Given as goal

-- those looked at have these pitches
abbrev pub invariant-loop-at : goal.invariant-loop-at
invariant-loop-at l = pitches_of_planned (take l.at l.planned) ≡ take l.at l.pitches
