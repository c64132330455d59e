use Rattle.std.proofs.Common.{◌≤◌, Bool, cond, length, arith, []}
use Rattle.std.proofs.Math.Seq.{drop-append_seam}
use Rattle.gabc_nabc.specs.witness.DescriptorMachine.{event_list}
use Rattle.gabc_nabc.specs.declared.stage.NabcEvents.{NabcEvents}
use Rattle.gabc_nabc.proofs.StagesKeep.{push_keeps_in}
use Rattle.gabc_nabc.proofs.Stopping.{push_stops, ended_as_before}
use Rattle.gabc_nabc.proofs.stage.NabcStageStage.push.Goals as goal

few_outputs : (b : Bool) (g : NabcEvents) → length (cond b [] (event_list g)) ≤ 3
few_outputs b g = grind arith

pub returns-clause-events : goal.returns-clause-events
returns-clause-events c = grind (arith, few_outputs)

pub returns-clause-end : goal.returns-clause-end
returns-clause-end c = push_stops c.args.self.now c.take.new.self c.args.x c.args.out.now c.take.new.out c.take.ensures.stage c.take.ensures.out

pub returns-clause-steps : goal.returns-clause-steps
returns-clause-steps c = grind (arith, drop-append_seam, push_keeps_in)

pub returns-clause-ended : goal.returns-clause-ended
returns-clause-ended c = ended_as_before c.args.self.now c.take.new.self c.args.x.c c.take.ensures.stage
