use Rattle.std.proofs.Common.{subst}
use Rattle.gregorio_jobs.specs.declared.job.Job.{Job}
use Rattle.gregorio.specs.witness.Engine.{streams_left}
use Rattle.gregorio_c.specs.Steps.{Begins}
use Rattle.gregorio_c.proofs.StepsOfRuns.{begins}
use Rattle.gregorio_c.proofs.steps.begin.Goals as goal

pub returns-in-Ok-state-clause-begins : goal.returns-in-Ok-state-clause-begins
returns-in-Ok-state-clause-begins c =
    subst (λ (job : Job). Begins job c.args.asked.limits c.first_of.result) c.job-job.ensures
    (begins c.job-job.result c.args.asked.limits (λ ending more. streams_left c.in-Ok.engine ending more) c.in-Ok-state.state.items c.first_of.result c.first_of.ensures c.in-Ok.ensures.all c.in-Ok-state.ensures)
