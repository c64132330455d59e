use Rattle.gabc_nabc.proofs.grammar.LawsOfEvents.{prefix_stays, silent}
use Rattle.gabc_nabc.proofs.laws.what_follows_emits_nothing.Goals as goal

pub returns : goal.returns
returns c = record { prefix = prefix_stays; end = silent }
