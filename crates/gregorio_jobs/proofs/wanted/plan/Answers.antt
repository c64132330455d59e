use Rattle.std.proofs.Common.{◌∙◌, Err, ap}
use Rattle.gregorio_jobs.proofs.answers.PlanByMatches.{taken, refused}
use Rattle.gregorio_jobs.proofs.wanted.plan.Goals as goal

pub returns-in-Ok : goal.returns-in-Ok
returns-in-Ok c = λ h. c.plan_by.ensures h ∙ taken _ _ _ _ c.in_ok-command.ensures c.as_slice.ensures c.in-Ok.ensures.kinds (λ e. (c.in-Ok.ensures.matches e).0)

pub returns-in-Err : goal.returns-in-Err
returns-in-Err c = λ h.
    refused _ _ _ _ _ c.in_ok-command.ensures c.as_slice.ensures c.in-Err.ensures.kinds c.refused_by.ensures (λ e. h (ap Err e))
