use Rattle.std.proofs.Common.{ap, ◌∙◌}
use Rattle.gabc_body.specs.ScoreEvents.{first_place}
use Rattle.gabc_score.specs.ScoreReports.{is_in_comment}
use Rattle.gabc_score.proofs.stage_laws.a_text_begins_outside_a_comment.Goals as goal

pub returns : goal.returns
returns c = λ s begins. ap is_in_comment begins.begins ∙ c.a_fresh_stage_reports_nothing_open.ensures.comment first_place
