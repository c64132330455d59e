use Rattle.std.proofs.Common.{Some, None, arith}
use Rattle.std.proofs.lemmas.Option.{none-some}
use Rattle.gregorio_state.specs.Fields.{fields_of}
use Rattle.gregorio_state.proofs.FieldsAreTested.{not_both}
use Rattle.gregorio_state.proofs.StatesAreRead.{read_again}
use Rattle.gregorio_state.proofs.reading.read.Goals as goal

pub returns-in_err-fields-clause-only : goal.returns-in_err-fields-clause-only
returns-in_err-fields-clause-only c = λ s fits e. absurd (none-some s (read_again c.args.bytes.now None s c.in_err-fields.ensures.read fits e))

pub returns-then-is_possible-clause-only : goal.returns-then-is_possible-clause-only
returns-then-is_possible-clause-only c = λ s fits e. read_again c.args.bytes.now (Some (fields_of c.in_ok-fields.fields)) s c.in_ok-fields.ensures.read fits e

pub returns-else-is_possible-clause-only : goal.returns-else-is_possible-clause-only
returns-else-is_possible-clause-only c = grind (arith, read_again, not_both)
