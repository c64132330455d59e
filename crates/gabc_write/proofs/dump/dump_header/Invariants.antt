use Rattle.std.proofs.Common.{◌≡◌}
use Rattle.std.specs.List.{flat_map}
use Rattle.gabc_write.specs.DumpLines.{line_of_header}
use Rattle.gabc_write.proofs.dump.dump_header.Given as goal

-- with what is left, it will have taken all of it
abbrev pub invariant-loop-name : goal.invariant-loop-name
invariant-loop-name g l = g.S.Put.taken l.out (flat_map line_of_header l.name-iterator) ≡ g.S.Put.taken l.initial.out (flat_map line_of_header l.fn.headers)
