use Rattle.gabc_notes.proofs.grammar.OpenBracketByLastItem.{open_decides}
use Rattle.gabc_notes.proofs.laws.inside_raw_is_an_open_bracket.Goals as goal

pub returns : goal.returns
returns c = open_decides
