use Rattle.gabc_nabc.proofs.grammar.LawsOfEvents.{end_is_emitted, end_within}
use Rattle.gabc_nabc.proofs.laws.one_end_is_emitted.Goals as goal

pub returns : goal.returns
returns c = record { end = end_is_emitted; bytes = end_within }
