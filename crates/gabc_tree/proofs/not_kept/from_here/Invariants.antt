use Rattle.std.proofs.Common.{◌≡◌, length}
use Rattle.gabc_tree.specs.NotKept.{from_here as findings_from}
use Rattle.gabc_tree.proofs.not_kept.from_here.Given as goal

abbrev pub invariant-loop-rest : goal.invariant-loop-rest
invariant-loop-rest l = findings_from l.here l.rest ≡ findings_from l.here l.findings

abbrev pub decreases-loop-rest : goal.decreases-loop-rest
decreases-loop-rest l = length l.rest
