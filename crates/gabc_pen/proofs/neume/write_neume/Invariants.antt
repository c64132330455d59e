use Rattle.std.proofs.Common.{◌≡◌, ◌++◌, length}
use Rattle.gabc_marks.specs.Heads.{pitches_of_heads}
use Rattle.gabc_pen.specs.Notes.{pitches_of_planned}
use Rattle.gabc_pen.proofs.neume.write_neume.Given as goal

-- with those of what is left, there will be those of all
abbrev pub invariant-loop-rest : goal.invariant-loop-rest
invariant-loop-rest l =
    pitches_of_heads l.heads.items ++ pitches_of_planned l.rest ≡ pitches_of_heads l.fn.heads.items ++ pitches_of_planned l.planned

abbrev pub decreases-loop-rest : goal.decreases-loop-rest
decreases-loop-rest l = length l.rest
