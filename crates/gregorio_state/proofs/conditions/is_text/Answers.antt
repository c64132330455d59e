use Rattle.gregorio_state.proofs.FieldsAreTested.{text_tested}
use Rattle.gregorio_state.proofs.conditions.is_text.Goals as goal

pub returns : goal.returns
returns c = rw c.is_plain.ensures (text_tested c.args.text.now c.utf8.text)
