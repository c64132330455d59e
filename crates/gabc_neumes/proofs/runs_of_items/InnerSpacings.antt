-- Which spacings stand within an element, by their characters.
use Rattle.std.proofs.Common.{◌≡◌, ℕ, List, Bool, true, false, ◌&&◌, ◌||◌, arith}
use Rattle.gabc_neumes.specs.Elements.{is_inner_spacing}
use Rattle.gabc_neumes.specs.machine.Runs.{is_inner}

of_one : (a b : Bool) → (((a && true) || (b && false)) || (b && false)) ≡ a
of_one a b = grind arith

of_two : (a b c d : Bool) → (((a && false) || (b && (c && true))) || (b && (d && true))) ≡ (b && (c || d))
of_two a b c d = grind arith

of_more : (a b c d : Bool) → (((a && false) || (b && (c && false))) || (b && (d && false))) ≡ false
of_more a b c d = grind arith

pub is_inner_same : (t : List ℕ) → is_inner_spacing t ≡ is_inner t
is_inner_same t = grind (arith, of_one, of_two, of_more)
