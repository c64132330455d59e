use Rattle.gabc_body.proofs.holding.SpansBetweenCharacters.{unit_snippets_whole}
use Rattle.gabc_body.proofs.unit_laws.snippets_of_a_unit_stand_between_characters.Goals as goal

pub returns : goal.returns
returns c = unit_snippets_whole
