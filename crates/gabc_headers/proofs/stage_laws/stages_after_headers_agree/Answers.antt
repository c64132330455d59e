use Rattle.gabc_headers.proofs.stages.AStageStops.{after_agree}
use Rattle.gabc_headers.proofs.stage_laws.stages_after_headers_agree.Goals as goal

pub returns : goal.returns
returns c = λ one other after too xs. after_agree one.limits other.limits one.progress other.progress xs after too
