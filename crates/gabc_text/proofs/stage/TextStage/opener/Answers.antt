use Rattle.std.proofs.Common.{sym, ◌∙◌, arith}
use Rattle.gabc_text.proofs.NothingAfterTheEnd.{opener_told}
use Rattle.gabc_text.proofs.resuming.EndedAndFreshStagesHaveNothingOpen.{opener_over}
use Rattle.gabc_text.proofs.stage.TextStage.opener.Goals as goal

pub returns-then-is_done : goal.returns-then-is_done
returns-then-is_done c = sym (opener_over c.args.self.now (sym c.is_done.ensures ∙ c.if-is_done.true))

pub returns-then-is_open : goal.returns-then-is_open
returns-then-is_open c = grind (arith, opener_told)

pub returns-else-is_open : goal.returns-else-is_open
returns-else-is_open c = grind (arith, opener_told)
