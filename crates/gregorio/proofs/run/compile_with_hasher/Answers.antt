use Rattle.gregorio.proofs.run.compile_with_hasher.Goals as goal

pub returns-in-Ok : goal.returns-in-Ok
returns-in-Ok g c = c.run-status.ensures.runs c.args.job.now (record { format = c.in-Ok.ensures.job.format; all = c.in-Ok.ensures.all })
