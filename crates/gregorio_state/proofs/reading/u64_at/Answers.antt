use Rattle.std.proofs.Common.{arith, ◌^◌}
use Rattle.std.specs.Int.{w64}
use Rattle.gregorio_state.proofs.NumbersAreRead.{wide_64, number_written}
use Rattle.gregorio_state.proofs.reading.u64_at.Goals as goal

pub returns-clause-written : goal.returns-clause-written
returns-clause-written c =
    let p = c.in_ok-number.ensures.cases in
    number_written w64 (2 ^ 64) wide_64 c.args.bytes.now c.from_be_bytes.result c.in_ok-number.number.now c.in_ok-number.rest.now (λ i. omega (arith, c.type_inv.bytes i)) (omega (arith, p.2)) p.0 p.1 c.from_be_bytes.ensures
