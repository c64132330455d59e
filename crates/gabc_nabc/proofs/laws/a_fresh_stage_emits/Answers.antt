use Rattle.std.proofs.Common.{arith}
use Rattle.gabc_nabc.proofs.grammar.EmittedByRelations.{relations_emit}
use Rattle.gabc_nabc.proofs.laws.a_fresh_stage_emits.Goals as goal

pub returns : goal.returns
returns c = grind (arith, relations_emit)
