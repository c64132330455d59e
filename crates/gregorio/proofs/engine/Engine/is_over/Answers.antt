use Rattle.std.proofs.Common.{◌≡◌, not, Option, is_none, is_some, arith}
use Rattle.gregorio.specs.declared.run_ending.RunEnding.{RunEnding}
use Rattle.gregorio.proofs.pieces.BytesAreTaken.{found_over, stopped_brings}
use Rattle.gregorio.proofs.pieces.NothingIsKeptBack.{prompt_where_over}
use Rattle.gregorio.proofs.engine.Engine.is_over.Goals as goal

some_is_not_none : (o : Option RunEnding) → is_some o ≡ not (is_none o)
some_is_not_none o = grind arith

pub returns-clause-over : goal.returns-clause-over
returns-clause-over c = grind (arith, some_is_not_none)

pub returns-clause-takes : goal.returns-clause-takes
returns-clause-takes c = grind (arith, found_over, stopped_brings, prompt_where_over)
