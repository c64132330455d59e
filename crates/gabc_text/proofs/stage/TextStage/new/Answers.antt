use Rattle.std.proofs.Common.{arith}
use Rattle.gabc_text.proofs.resuming.StagesKeep.{fresh_keeps}
use Rattle.gabc_text.proofs.machine.FreshStageEmitsEventsByPoint.{fresh_emits}
use Rattle.gabc_text.proofs.stage.TextStage.new.Goals as goal

pub returns-clause-events : goal.returns-clause-events
returns-clause-events c t fits = grind (arith, fresh_emits)

pub returns-clause-keeps : goal.returns-clause-keeps
returns-clause-keeps c = grind (arith, fresh_keeps)
