-- What of what is not kept stands before a byte is a front of it.
use Rattle.std.proofs.Common.{◌≡◌, ◌+◌, ◌-◌, ℕ, List, [], ◌∷◌, refl, length, arith}
use Rattle.std.specs.Prelude.{take}
use Rattle.gabc_nodes.specs.declared.node.Node.{Node}
use Rattle.gabc_tree.specs.Placed.{before_byte}

pub is_front : (n : ℕ) (out : List Node) → take (length (before_byte n out)) out ≡ before_byte n out
is_front n [] = refl
is_front n (s ∷ out) = grind (arith, is_front (n + (s.end - s.begin)) out)
