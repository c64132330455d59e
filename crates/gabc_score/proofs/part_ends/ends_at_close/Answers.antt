use Rattle.std.proofs.Common.{arith}
use Rattle.gabc_score.proofs.building.SyllableEndsLast.{last_emits_so}
use Rattle.gabc_score.proofs.part_ends.ends_at_close.Goals as goal

pub returns-in-Some : goal.returns-in-Some
returns-in-Some c = grind (arith, last_emits_so)
