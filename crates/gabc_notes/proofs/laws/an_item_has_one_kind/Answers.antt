use Rattle.gabc_notes.proofs.grammar.LawsOfKeptTexts.{kinds_are_one}
use Rattle.gabc_notes.proofs.laws.an_item_has_one_kind.Goals as goal

pub returns : goal.returns
returns c = kinds_are_one
