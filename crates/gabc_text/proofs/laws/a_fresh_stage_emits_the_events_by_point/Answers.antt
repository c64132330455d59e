use Rattle.gabc_text.proofs.machine.FreshStageEmitsEventsByPoint.{fresh_emits}
use Rattle.gabc_text.proofs.laws.a_fresh_stage_emits_the_events_by_point.Goals as goal

pub returns-clause-events : goal.returns-clause-events
returns-clause-events c at t fits = (fresh_emits at t fits).0

pub returns-clause-left : goal.returns-clause-left
returns-clause-left c at t fits = (fresh_emits at t fits).1
