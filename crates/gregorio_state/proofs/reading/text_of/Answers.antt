use Rattle.std.proofs.Common.{◌∙◌, ap, sym, Some}
use Rattle.gregorio_state.proofs.TextsAreRead.{text_read, text_refused}
use Rattle.gregorio_state.proofs.reading.text_of.Goals as goal

pub returns-in-Ok-clause-read : goal.returns-in-Ok-clause-read
returns-in-Ok-clause-read c = text_read c.args.bytes.now c.in-Ok.ensures.1 ∙ ap (λ t. Some t) (sym c.in-Ok.ensures.0)

pub returns-in-Err-clause-read : goal.returns-in-Err-clause-read
returns-in-Err-clause-read c = text_refused c.args.bytes.now c.in-Err.ensures
