use Rattle.gabc_score.proofs.resuming.ResumedIsOfText.{reported_after}
use Rattle.gabc_score.proofs.stage_laws.a_resumed_stage_reports_a_text.Goals as goal

pub returns : goal.returns
returns c = reported_after
