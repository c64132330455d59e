use Rattle.gabc_write.proofs.DumpOfWhatIsSaid.{same_lines}
use Rattle.gabc_write.proofs.laws.syllables_that_say_the_same_have_one_dump.Goals as goal

pub returns : goal.returns
returns c = same_lines
