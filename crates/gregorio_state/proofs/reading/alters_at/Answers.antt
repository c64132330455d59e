use Rattle.std.proofs.Common.{map}
use Rattle.gregorio_state.specs.StateBytes.{alter_number}
use Rattle.gregorio_state.proofs.AltersAreRead.{joined}
use Rattle.gregorio_state.proofs.reading.alters_at.Goals as goal

pub returns-clause-written : goal.returns-clause-written
returns-clause-written c =
    let p = c.in_ok-numbers.ensures.cases in joined c.args.bytes.now c.in_ok-numbers.numbers.now c.in_ok-numbers.rest.now (map alter_number c.in_ok-alters.alters) p.0 p.1 c.in_ok-alters.ensures.written
