use Rattle.std.proofs.Common.{take-add, take_all, length-drop, arith}
use Rattle.gabc_places.proofs.AppendsAreJoined.{appends-more}
use Rattle.gabc_places.proofs.CallsInTime.{answered, failed, fails_after, goes_on_after}
use Rattle.gabc_places.proofs.sink.send_all.Goals as goal

pub loop-sent-preserved : goal.loop-sent-preserved
loop-sent-preserved g c = grind (arith, length-drop, take_all, take-add, appends-more, goes_on_after, answered)

pub returns-in-Err-clause-fails : goal.returns-in-Err-clause-fails
returns-in-Err-clause-fails g c = grind (arith, fails_after, failed)
