use Rattle.std.proofs.Common.{arith}
use Rattle.std.proofs.lemmas.Nat.{pow_below}
use Rattle.gabc_headers.proofs.headers.Headers.macros.Goals as goal

pub overflow_mul-bit : goal.overflow_mul-bit
overflow_mul-bit c = omega (arith, c.loop-digit.invariant.bit, pow_below c.loop-digit.digit 10 c.loop-digit-test.true)
