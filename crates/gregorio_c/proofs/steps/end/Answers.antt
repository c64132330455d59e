use Rattle.std.proofs.Common.{subst}
use Rattle.gregorio_jobs.specs.declared.job.Job.{Job}
use Rattle.gregorio.specs.witness.Engine.{streams_left}
use Rattle.gregorio_c.specs.Steps.{Ends}
use Rattle.gregorio_c.proofs.StepsOfRuns.{ends}
use Rattle.gregorio_c.proofs.steps.end.Goals as goal

pub returns-in-Ok-clause-ends : goal.returns-in-Ok-clause-ends
returns-in-Ok-clause-ends c =
    subst (λ (job : Job). Ends job c.args.asked.limits c.args.ending c.args.before.now c.in-Ok.made) c.job-job.ensures
    (ends c.job-job.result c.args.asked.limits c.args.ending c.args.before.now (λ ending more. streams_left c.in_ok-engine.engine ending more) c.in-Ok.made c.in_ok-engine.ensures.stands c.in-Ok.ensures)
