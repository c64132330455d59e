use Rattle.std.proofs.Common.{arith}
use Rattle.gabc_write.proofs.reading_again.PendingSyllableRoundTrips.{held_is_read}
use Rattle.gabc_write.proofs.laws.what_is_held_is_read_from_its_own_text.Goals as goal

pub returns : goal.returns
returns c = grind (arith, held_is_read)
