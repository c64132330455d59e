use Rattle.gabc_text.proofs.resuming.EndedAndFreshStagesHaveNothingOpen.{opener_moved, comment_moved, opener_opened, comment_opened}
use Rattle.gabc_text.proofs.laws.what_is_open_stays_open_elsewhere.Goals as goal

pub returns-clause-opener : goal.returns-clause-opener
returns-clause-opener c = opener_moved

pub returns-clause-comment : goal.returns-clause-comment
returns-clause-comment c = comment_moved

pub returns-clause-opened : goal.returns-clause-opened
returns-clause-opened c = opener_opened

pub returns-clause-comment_opened : goal.returns-clause-comment_opened
returns-clause-comment_opened c = comment_opened
