use Rattle.std.proofs.Common.{arith}
use Rattle.gregorio.proofs.JoinedSyllables.{past_joined}
use Rattle.gregorio.proofs.run_writer.RunWriterGive.give_joined.Goals as goal

pub returns : goal.returns
returns c = grind (arith, past_joined)
