use Rattle.gabc_text.proofs.resuming.EndedAndFreshStagesHaveNothingOpen.{opener_fresh, comment_fresh}
use Rattle.gabc_text.proofs.laws.a_fresh_stage_reports_nothing_open.Goals as goal

pub returns-clause-opener : goal.returns-clause-opener
returns-clause-opener c = opener_fresh

pub returns-clause-comment : goal.returns-clause-comment
returns-clause-comment c = comment_fresh
