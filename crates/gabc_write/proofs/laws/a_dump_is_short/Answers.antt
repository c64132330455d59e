use Rattle.gabc_write.proofs.dump_is_short.LinesOfSyllable.{syllable_short}
use Rattle.gabc_write.proofs.laws.a_dump_is_short.Goals as goal

pub returns : goal.returns
returns c = λ number outset s l u k h. syllable_short c.names_are_short.ensures number outset s l u k h
