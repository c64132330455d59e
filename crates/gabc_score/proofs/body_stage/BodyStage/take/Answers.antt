use Rattle.std.proofs.Common.{subst}
use Rattle.gabc_text.specs.declared.stage.TextStage.{TextStage}
use Rattle.gabc_score.specs.declared.body_stage.BodyPart.TheVariants as part
use Rattle.gabc_score.specs.machine.PartSteps.{TakesChar, in_front, leaves_front}
use Rattle.gabc_score.specs.witness.BodyStage.{BodyStageState}
use Rattle.gabc_score.proofs.body_stage.BodyStage.take.Goals.{in-Comment+else-x-ne10, in_default}
use Rattle.gabc_score.proofs.body_stage.BodyStage.take.Goals as goal

pub returns-then-x-ne10-clause-steps : goal.returns-then-x-ne10-clause-steps
returns-then-x-ne10-clause-steps c = rw (← c.self.view_is, c.in-Comment.is) (in_front c.if-x-ne10.true, tt)

pub returns-clause-steps : goal.returns-clause-steps
returns-clause-steps c =
    let now = c.push_part.new.self.events in
    let after = c.push_part.new.self.part in
    elim c.match-self.branch [
      | in-Comment+else-x-ne10 w ↦ rw (← c.self.view_is, w.in-Comment.is)
          (let h = subst (λ (t : TextStage). TakesChar c.self.inside.nabc_lines c.self.inside.macros c.args.x (part.Text t) now after) w.new.ensures.fresh
          (subst (λ (s : BodyStageState). TakesChar s.nabc_lines s.macros c.args.x s.part now after) w.self-is c.push_part.ensures.steps) in
          (leaves_front w.if-x-ne10.false h.0, h.1))
      | in_default w ↦ subst (λ (s : BodyStageState). TakesChar s.nabc_lines s.macros c.args.x s.part now after) w.self-is c.push_part.ensures.steps
    ]
