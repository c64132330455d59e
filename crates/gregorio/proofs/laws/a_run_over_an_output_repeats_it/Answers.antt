use Rattle.gregorio.proofs.RunOverAnOutput.{output_repeated}
use Rattle.gregorio.proofs.laws.a_run_over_an_output_repeats_it.Goals as goal

pub returns : goal.returns
returns c = output_repeated c.canonical_again.ensures.again c.canonical_again.ensures.short
