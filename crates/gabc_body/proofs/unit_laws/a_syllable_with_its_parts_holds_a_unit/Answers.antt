use Rattle.gabc_body.proofs.holding.PartsAreAUnit.{parts_are_unit}
use Rattle.gabc_body.proofs.unit_laws.a_syllable_with_its_parts_holds_a_unit.Goals as goal

pub returns : goal.returns
returns c = parts_are_unit
