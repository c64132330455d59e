use Rattle.gabc_nabc.proofs.machine.RegularShortWays.{foreign_stops}
use Rattle.gabc_nabc.proofs.regular.RegularState.after.Goals as goal

pub returns-then-is_foreign : goal.returns-then-is_foreign
returns-then-is_foreign c = foreign_stops c.args.self c.args.c (c.is_foreign.ensures c.if-is_foreign.true)
