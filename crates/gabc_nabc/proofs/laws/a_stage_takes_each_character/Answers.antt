use Rattle.std.proofs.Common.{false, refl}
use Rattle.gabc_nabc.specs.witness.DescriptorMachine.{stage_after, stage_events_at}
use Rattle.gabc_nabc.specs.declared.stage.NabcStage.{NabcStage}
use Rattle.gabc_nabc.specs.declared.state.DescriptorState.TheVariants.{Start}
use Rattle.gabc_nabc.proofs.StagesKeep.{fresh_keeps, push_keeps}
use Rattle.gabc_nabc.proofs.machine.FreshStageEmitsEventsByPoint.{fresh}
use Rattle.gabc_nabc.proofs.laws.a_stage_takes_each_character.Goals as goal

fresh_stage : NabcStage
fresh_stage = record { state = Start; letter = 47; comment = false; kept = 0; whole = 0; ended = false }

pub returns-clause-fresh : goal.returns-clause-fresh
unfolding fresh_stage
returns-clause-fresh c = record { stage = fresh_stage; emits = fresh; keeps = fresh_keeps fresh_stage refl fresh; outside = refl }

pub returns-clause-takes : goal.returns-clause-takes
returns-clause-takes c = λ s x. record {
  events = stage_events_at s x;
  after = stage_after s x.c;
  emits = λ xs. refl;
  keeps = push_keeps s x;
}
