-- Tests of two numbers, where their order is known.
use Rattle.std.proofs.Common.{◌≡◌, ℕ, suc, ◌<◌, ◌==◌, nat_lt, true, false, arith}
use Rattle.std.proofs.lemmas.Bool.Decides.{nat_tests}

pub same_eqb : (n : ℕ) → (n == n) ≡ true
same_eqb n = grind (arith, nat_tests)

pub same_ltb : (n : ℕ) → nat_lt n n ≡ false
same_ltb n = grind (arith, nat_tests)

pub below_eqb : (a b : ℕ) → a < b → (a == b) ≡ false
below_eqb a b h = grind (arith, nat_tests)

pub above_eqb : (a b : ℕ) → b < a → (a == b) ≡ false
above_eqb a b h = grind (arith, nat_tests)

pub suc_eqb : (n : ℕ) → (suc n == 0) ≡ false
suc_eqb n = grind arith
