use Rattle.std.proofs.Common.{◌≡◌}
use Rattle.gabc_write.specs.machine.NamesAfterFirst.{names_after}
use Rattle.gabc_write.proofs.dump_nabc.put_joined.Given as goal

-- with what is left, it will have taken all of it
abbrev pub invariant-loop-code : goal.invariant-loop-code
invariant-loop-code g l = g.S.Put.taken l.out (names_after l.code-iterator) ≡ g.S.Put.taken l.initial.out (names_after l.fn.codes)
