use Rattle.gabc_body.proofs.units.CanonicalTextIsText.{canonical_is_text, canonical_is_utf8}
use Rattle.gabc_body.proofs.unit_laws.the_canonical_text_of_a_unit_is_a_text.Goals as goal

pub returns-clause-text : goal.returns-clause-text
returns-clause-text c = canonical_is_text c.spans_stand_for_the_view.ensures.bytes

pub returns-clause-utf8 : goal.returns-clause-utf8
returns-clause-utf8 c = canonical_is_utf8 c.spans_stand_for_the_view.ensures.bytes
