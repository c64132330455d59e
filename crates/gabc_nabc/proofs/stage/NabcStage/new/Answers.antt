use Rattle.std.proofs.Common.{refl}
use Rattle.gabc_nabc.proofs.StagesKeep.{fresh_keeps}
use Rattle.gabc_nabc.proofs.grammar.EmittedByRelations.{emitted_by_relations}
use Rattle.gabc_nabc.proofs.machine.FreshStageEmitsEventsByPoint.{fresh}
use Rattle.gabc_nabc.proofs.stage.NabcStage.new.Goals as goal

pub returns-clause-events : goal.returns-clause-events
returns-clause-events c = λ xs. emitted_by_relations xs _ (fresh xs)

pub returns-clause-keeps : goal.returns-clause-keeps
returns-clause-keeps c = fresh_keeps _ refl fresh
