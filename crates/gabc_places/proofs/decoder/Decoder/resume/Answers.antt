use Rattle.std.proofs.Common.{arith}
use Rattle.gabc_places.proofs.utf8.CharacterByCharacter.{partial_short}
use Rattle.gabc_places.proofs.decoder.Decoder.resume.Goals as goal

pub unreachable-requires : goal.unreachable-requires
unreachable-requires c = grind (arith, partial_short)
