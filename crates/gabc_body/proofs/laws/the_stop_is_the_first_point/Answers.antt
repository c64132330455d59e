use Rattle.std.proofs.Common.{[]}
use Rattle.gabc_body.proofs.emitted.StopIsFirst.{stop_is_first}
use Rattle.gabc_body.proofs.laws.the_stop_is_the_first_point.Goals as goal

pub returns : goal.returns
returns c limits head = stop_is_first limits head []
