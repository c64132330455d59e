use Rattle.std.proofs.Common.{arith}
use Rattle.gabc_places.proofs.utf8.CharacterByCharacter.{partial_short}
use Rattle.gabc_places.proofs.decoder.may_be_told.Goals as goal

pub is_reached-requires : goal.is_reached-requires
is_reached-requires c = omega (arith, partial_short c.args.pending.now (c.is_partial.ensures.0 c.if-not-is_partial.false))
