use Rattle.std.proofs.Common.{length}
use Rattle.gabc_tree.specs.machine.Walk.{IsWithin, GoesPast}
use Rattle.gabc_tree.proofs.place_reader.Walk.to.Given as goal

abbrev pub invariant-loop-next : goal.invariant-loop-next
invariant-loop-next l = record {
  past : GoesPast l.fn.self l.walk l.fn.place;
  within : IsWithin l.walk;
}

abbrev pub decreases-loop-next : goal.decreases-loop-next
decreases-loop-next l = length l.walk.rest.now
