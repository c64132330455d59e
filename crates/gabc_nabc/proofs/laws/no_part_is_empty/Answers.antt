use Rattle.gabc_nabc.proofs.grammar.LawsOfEvents.{none_empty}
use Rattle.gabc_nabc.proofs.laws.no_part_is_empty.Goals as goal

pub returns : goal.returns
returns c = λ h. none_empty h.0 h.1
