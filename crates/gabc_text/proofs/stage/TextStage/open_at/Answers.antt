use Rattle.std.proofs.Common.{arith}
use Rattle.gabc_text.proofs.resuming.EndedAndFreshStagesHaveNothingOpen.{opener_by, comment_by}
use Rattle.gabc_text.proofs.resuming.NextPlaceDeterminesKeptPlaces.{next_stays}
use Rattle.gabc_text.proofs.stage.TextStage.open_at.Goals as goal

pub returns-then-is_open-clause-opener : goal.returns-then-is_open-clause-opener
returns-then-is_open-clause-opener c = grind (arith, opener_by)

pub returns-then-is_open-clause-comment : goal.returns-then-is_open-clause-comment
returns-then-is_open-clause-comment c = grind (arith, comment_by)

pub returns-then-is_open-clause-next : goal.returns-then-is_open-clause-next
returns-then-is_open-clause-next c = next_stays c.args.self.now c.args.place

pub returns-else-is_open-clause-opener : goal.returns-else-is_open-clause-opener
returns-else-is_open-clause-opener c = grind (arith, opener_by)
