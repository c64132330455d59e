use Rattle.std.proofs.Common.{subst, sym}
use Rattle.gabc_places.specs.StageLaw.{StopsAtEnd, EmitsNothing}
use Rattle.gabc_headers.specs.HeadEvents.{is_last_event}
use Rattle.gabc_headers.specs.witness.HeadEvents.{HeaderStageState, events_left}
use Rattle.gabc_headers.proofs.stages.AStageStops.{finish_stops, over_is_silent}
use Rattle.gabc_headers.proofs.header_stage.HeaderStageStage.finish.Goals as goal

pub returns-clause-end : goal.returns-clause-end
returns-clause-end c =
    subst (λ (s : HeaderStageState). StopsAtEnd is_last_event (events_left s.limits s.progress) c.args.out.now c.end.new.out) (sym c.end.ensures.state)
    (finish_stops c.args.self.now.limits c.args.self.now.progress c.args.out.now c.end.new.out c.end.ensures.out)

pub returns-clause-over : goal.returns-clause-over
returns-clause-over c = subst (λ (s : HeaderStageState). EmitsNothing (events_left s.limits s.progress)) (sym c.end.ensures.state) (over_is_silent c.args.self.now.limits)
