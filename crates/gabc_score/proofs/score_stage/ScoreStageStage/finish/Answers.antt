use Rattle.gabc_score.specs.ScoreStage.{events_left}
use Rattle.gabc_score.specs.machine.ScoreMachine.{shown}
use Rattle.gabc_score.proofs.score_events.AStageStops.{stops_last, over_is_silent}
use Rattle.gabc_score.proofs.score_stage.ScoreStageStage.finish.Goals as goal

pub returns-clause-end : goal.returns-clause-end
returns-clause-end c =
    let g = c.finish.ensures.step in
    stops_last c.self.inside.machine g.outputs (events_left (shown c.finish.new.self)) c.args.out.now c.finish.new.out g.law g.emitted.events (over_is_silent c.finish.new.self c.finish.ensures.part)

pub returns-clause-over : goal.returns-clause-over
returns-clause-over c = over_is_silent c.finish.new.self c.finish.ensures.part
