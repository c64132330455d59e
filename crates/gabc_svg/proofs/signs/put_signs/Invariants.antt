use Rattle.std.proofs.Common.{◌≡◌, length}
use Rattle.gabc_svg.specs.Xml.{written}
use Rattle.gabc_svg.specs.Page.{signs_content}
use Rattle.gabc_svg.proofs.signs.put_signs.Given as goal

-- with what is left, it will have taken all of it
abbrev pub invariant-loop-rest : goal.invariant-loop-rest
invariant-loop-rest g l =
    g.S.Put.taken l.out (written (signs_content l.levels l.rest)) ≡ g.S.Put.taken l.initial.out (written (signs_content l.initial.levels l.signs))

abbrev pub decreases-loop-rest : goal.decreases-loop-rest
decreases-loop-rest g l = length l.rest
