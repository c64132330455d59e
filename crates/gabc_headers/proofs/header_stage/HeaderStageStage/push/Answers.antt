use Rattle.std.proofs.Common.{subst, sym}
use Rattle.gabc_places.specs.StageLaw.{StopsAtEnd}
use Rattle.gabc_headers.specs.HeadEvents.{is_last_event}
use Rattle.gabc_headers.specs.witness.HeadEvents.{HeaderStageState, events_left}
use Rattle.gabc_headers.proofs.stages.AStageStops.{push_stops}
use Rattle.gabc_headers.proofs.header_stage.HeaderStageStage.push.Goals as goal

pub returns-clause-end : goal.returns-clause-end
returns-clause-end c =
    subst (λ (s : HeaderStageState). StopsAtEnd is_last_event (events_left s.limits s.progress) c.args.out.now c.take.new.out) (sym c.take.ensures.state)
    (push_stops c.args.self.now.limits c.args.self.now.progress c.args.input c.args.out.now c.take.new.out c.take.ensures.out)
