use Rattle.std.proofs.Common.{arith}
use Rattle.gabc_nabc.proofs.machine.RegularBytes.{lone_code}
use Rattle.gabc_nabc.proofs.regular.regular_nabc.Goals as goal

pub returns-then-begins_with_lone_code : goal.returns-then-begins_with_lone_code
returns-then-begins_with_lone_code c = grind (arith, lone_code)
