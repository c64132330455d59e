use Rattle.gabc_notes.proofs.grammar.LawsOfKeptTexts.{raw_decides}
use Rattle.gabc_notes.proofs.laws.inside_raw_is_decided.Goals as goal

pub returns : goal.returns
returns c = raw_decides
