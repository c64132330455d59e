use Rattle.std.proofs.Common.{◌∙◌, sym, ap, length, List}
use Rattle.gabc_text.specs.TextStage.{fresh_stage}
use Rattle.gabc_text.specs.declared.text_event.TextEvent.{TextEvent}
use Rattle.gabc_text.proofs.machine.FreshStageEmitsEventsByPoint.{fresh_stepwise}
use Rattle.gabc_text.proofs.events.EventsByPointAreEvents.{points_joined}
use Rattle.gabc_text.proofs.machine.EventsNeedNothingAfter.{each_emits}
use Rattle.gabc_text.proofs.laws.events_by_point_are_the_events.Goals as goal

pub returns-clause-each : goal.returns-clause-each
returns-clause-each c at t fits = ap (length {A = List TextEvent}) (sym (fresh_stepwise at t fits).0) ∙ each_emits (fresh_stage at) t

pub returns-clause-joined : goal.returns-clause-joined
returns-clause-joined c at t = points_joined at t
