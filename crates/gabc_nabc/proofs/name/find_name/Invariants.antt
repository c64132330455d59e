use Rattle.std.proofs.Common.{◌≡◌, drop, map}
use Rattle.gabc_nabc.specs.Names.{name_among}
use Rattle.gabc_nabc.proofs.name.find_name.Given as goal

abbrev pub invariant-loop-a : goal.invariant-loop-a
invariant-loop-a l =
    name_among l.first l.second (map (λ row. (row.0, row.1, row.2.now)) l.names) ≡ name_among l.first l.second (map (λ row. (row.0, row.1, row.2.now)) (drop l.a-index l.names))
