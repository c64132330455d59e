use Rattle.gabc_nabc.proofs.grammar.LawsOfEvents.{two_complete}
use Rattle.gabc_nabc.proofs.laws.two_characters_complete.Goals as goal

pub returns : goal.returns
returns c = two_complete
