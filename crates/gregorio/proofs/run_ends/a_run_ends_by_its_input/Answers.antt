use Rattle.gregorio.proofs.RunsEndByInput.{ends_by_input}
use Rattle.gregorio.proofs.run_ends.a_run_ends_by_its_input.Goals as goal

pub returns : goal.returns
returns c = λ e runs. ends_by_input e
