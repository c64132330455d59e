use Rattle.gabc_body.specs.Events.{InComment}
use Rattle.gabc_score.proofs.texts_of_body.StageAndDefinitionAgree.{same_emitted}
use Rattle.gabc_score.proofs.body_stage.BodyStage.new.Goals as goal

pub returns-clause-facts : goal.returns-clause-facts
returns-clause-facts c at t fits = same_emitted c.a_fresh_stage_emits_the_events_by_point.ensures.events c.args.nabc_lines c.args.macros at t InComment fits
