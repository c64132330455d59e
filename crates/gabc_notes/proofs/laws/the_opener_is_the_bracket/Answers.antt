use Rattle.gabc_notes.proofs.grammar.LawsOfEventsByPoint.{opened}
use Rattle.gabc_notes.proofs.laws.the_opener_is_the_bracket.Goals as goal

pub returns : goal.returns
returns c = opened
