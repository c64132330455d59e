use Rattle.gabc_notes.proofs.grammar.LawsOfEventsByPoint.{comment_decides}
use Rattle.gabc_notes.proofs.laws.a_comment_begins_with_a_percent.Goals as goal

pub returns : goal.returns
returns c = comment_decides
