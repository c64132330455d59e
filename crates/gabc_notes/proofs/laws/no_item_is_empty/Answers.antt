use Rattle.gabc_notes.proofs.grammar.LawsOfKeptTexts.{none_empty}
use Rattle.gabc_notes.proofs.laws.no_item_is_empty.Goals as goal

pub returns : goal.returns
returns c = λ h. none_empty h.0 h.1
