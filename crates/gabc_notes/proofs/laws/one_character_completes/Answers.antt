use Rattle.gabc_notes.proofs.grammar.LawsOfKeptTexts.{one_completes}
use Rattle.gabc_notes.proofs.laws.one_character_completes.Goals as goal

pub returns : goal.returns
returns c = one_completes
