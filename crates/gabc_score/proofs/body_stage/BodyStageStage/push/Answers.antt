use Rattle.std.proofs.Common.{rules, arith}
use Rattle.gabc_score.proofs.building.EventsOfSnippets.{stage_emits}
use Rattle.gabc_score.proofs.body_stage.BodyStageStage.push.Goals as goal

pub emit-requires : goal.emit-requires
emit-requires c = let few = (stage_emits c.args.self.now c.take.ensures.same c.take.ensures.steps).few in let fits = c.requires in omega (arith, few, fits)

pub returns-clause-events : goal.returns-clause-events
returns-clause-events c =
    let emits = stage_emits c.args.self.now c.take.ensures.same c.take.ensures.steps in
    let few = emits.few in
    let law = emits.law in
    search (rules, few, law)
