use Rattle.gabc_score.specs.witness.ScoreStage.{left_of}
use Rattle.gabc_score.specs.machine.ScoreMachine.{shown}
use Rattle.gabc_score.proofs.score_events.AStageStops.{stops}
use Rattle.gabc_score.proofs.score_stage.ScoreStageStage.push.Goals as goal

pub returns-clause-end : goal.returns-clause-end
returns-clause-end c =
    let g = c.push.ensures.step in
    stops c.self.inside.machine c.args.input g.outputs (left_of (shown c.push.new.self)) c.args.out.now c.push.new.out g.law g.emitted.events
