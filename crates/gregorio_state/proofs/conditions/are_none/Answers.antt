use Rattle.std.proofs.Common.{◌≡◌, length, arith}
use Rattle.gregorio_state.proofs.FieldsAreTested.{alters_tested}
use Rattle.gregorio_state.proofs.conditions.are_none.Goals as goal

pub returns : goal.returns
returns c = let len : length c.args.alters.now ≡ 15 = omega arith in rw c.each_is_none.ensures (alters_tested c.args.alters.now 15 len)
