use Rattle.std.proofs.Common.{arith}
use Rattle.gabc_places.proofs.utf8.PartOfACharacter.{nothing_is_partial}
use Rattle.gabc_places.proofs.decoding.BytesAreDecoded.{fresh_known, fresh_at_end}
use Rattle.gabc_places.proofs.decoder.Decoder.new.Goals as goal

pub invariant_of-result : goal.invariant_of-result
invariant_of-result c = grind (arith, nothing_is_partial)

pub returns-clause-known : goal.returns-clause-known
returns-clause-known c bytes more = rw c.new.ensures (fresh_known c.args.limits bytes more)

pub returns-clause-at_end : goal.returns-clause-at_end
returns-clause-at_end c bytes = rw c.new.ensures (fresh_at_end c.args.limits bytes)
