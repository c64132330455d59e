use Rattle.gabc_nabc.proofs.grammar.LawsOfEvents.{emitted_kept}
use Rattle.gabc_nabc.proofs.laws.the_kept_text_is_emitted.Goals as goal

pub returns : goal.returns
returns c = emitted_kept
