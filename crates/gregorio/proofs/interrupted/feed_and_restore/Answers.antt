use Rattle.std.proofs.Common.{arith}
use Rattle.gregorio.proofs.interrupted.feed_and_restore.Goals as goal

pub returns-in_ok-restored-clause-put : goal.returns-in_ok-restored-clause-put
returns-in_ok-restored-clause-put g c ending more = grind arith
