use Rattle.std.proofs.Common.{arith}
use Rattle.gregorio.proofs.pieces.StatesAreWhole.{is_in_the_body}
use Rattle.gregorio.proofs.engine_laws.the_body_comes_after_the_headers.Goals as goal

pub returns : goal.returns
returns c = grind (arith, is_in_the_body)
