use Rattle.std.proofs.Common.{◌≡◌, length}
use Rattle.gabc_write.specs.DumpLines.{escaped}
use Rattle.gabc_write.proofs.escape.put_escaped_bytes.Given as goal

-- with what is left, it will have taken all of it
abbrev pub invariant-loop-rest : goal.invariant-loop-rest
invariant-loop-rest g l = g.S.Put.taken l.out (escaped l.rest) ≡ g.S.Put.taken l.initial.out (escaped l.text)

abbrev pub decreases-loop-rest : goal.decreases-loop-rest
decreases-loop-rest g l = length l.rest
