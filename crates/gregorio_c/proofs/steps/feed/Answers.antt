use Rattle.std.proofs.Common.{subst}
use Rattle.gregorio_jobs.specs.declared.job.Job.{Job}
use Rattle.gregorio.specs.witness.Engine.{streams_left}
use Rattle.gregorio_c.specs.Steps.{Feeds}
use Rattle.gregorio_c.proofs.StepsOfRuns.{feeds}
use Rattle.gregorio_c.proofs.steps.feed.Goals as goal

pub returns-in-Ok-clause-feeds : goal.returns-in-Ok-clause-feeds
returns-in-Ok-clause-feeds c =
    subst (λ (job : Job). Feeds job c.args.asked.limits c.args.before.now c.args.piece.now c.in-Ok.made) c.job-job.ensures
    (feeds c.job-job.result c.args.asked.limits c.args.before.now c.args.piece.now (λ ending more. streams_left c.in_ok-engine.engine ending more) c.in-Ok.made c.in_ok-engine.ensures.stands c.in-Ok.ensures)
