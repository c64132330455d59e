use Rattle.gabc_nabc.proofs.grammar.LawsOfEvents.{kinds_are_one}
use Rattle.gabc_nabc.proofs.laws.a_part_has_one_kind.Goals as goal

pub returns : goal.returns
returns c = kinds_are_one
