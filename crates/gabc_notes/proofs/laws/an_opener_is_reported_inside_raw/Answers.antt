use Rattle.gabc_notes.proofs.resuming.KeptTextGivesStage.{told_inside_raw}
use Rattle.gabc_notes.proofs.laws.an_opener_is_reported_inside_raw.Goals as goal

pub returns-clause-opener : goal.returns-clause-opener
returns-clause-opener c = told_inside_raw

pub returns-clause-comment : goal.returns-clause-comment
returns-clause-comment c = λ split macros s k h. h.outside
