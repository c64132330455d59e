use Rattle.gabc_notes.proofs.grammar.EmittedByRelations.{emitted_by_relations}
use Rattle.gabc_notes.proofs.machine.FreshStageEmitsEventsByPoint.{fresh_says}
use Rattle.gabc_notes.proofs.resuming.StagesKeep.{fresh_keeps}
use Rattle.gabc_notes.proofs.stage.NoteStage.new.Goals as goal

pub returns-clause-events : goal.returns-clause-events
returns-clause-events c = λ xs. emitted_by_relations c.args.split c.args.macros xs _ (fresh_says c.args.split c.args.macros xs)

pub returns-clause-keeps : goal.returns-clause-keeps
returns-clause-keeps c = fresh_keeps c.args.split c.args.macros
