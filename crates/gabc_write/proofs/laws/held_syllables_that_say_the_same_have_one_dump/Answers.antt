use Rattle.gabc_write.proofs.DumpOfWhatIsSaid.{held_dump}
use Rattle.gabc_write.proofs.laws.held_syllables_that_say_the_same_have_one_dump.Goals as goal

pub returns : goal.returns
returns c = held_dump
