use Rattle.std.proofs.Common.{◌≡◌, map, drop}
use Rattle.gregorio_state.specs.StateBytes.{alter_number}
use Rattle.gregorio_state.proofs.writing.put_alters.Given as goal

abbrev pub invariant-loop-alter : goal.invariant-loop-alter
invariant-loop-alter g l = g.S.Put.taken l.out (map alter_number (drop l.alter-index l.alters)) ≡ g.S.Put.taken l.initial.out (map alter_number l.alters)
