use Rattle.gabc_neumes.proofs.runs_of_items.RunsHoldWhatPasses.{stands_in_run}
use Rattle.gabc_neumes.proofs.laws.what_passes_stands_in_a_run.Goals as goal

pub returns : goal.returns
returns c = stands_in_run
