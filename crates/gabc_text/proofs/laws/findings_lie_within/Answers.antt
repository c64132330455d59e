use Rattle.std.proofs.Common.{arith}
use Rattle.gabc_text.proofs.order.FindingsLieWithin.{found_within}
use Rattle.gabc_text.proofs.order.FindingsOfEvents.{found_all, findings_low, findings_warn}
use Rattle.gabc_text.proofs.laws.findings_lie_within.Goals as goal

pub returns : goal.returns
returns c = grind (arith, found_within, found_all, findings_low, findings_warn)
