-- How many nodes are put, with what is not kept.
use Rattle.std.proofs.Common.{◌≡◌, ◌≤◌, ℕ, ◌+◌, Bool, true, false, List, [], ◌∷◌, length, length-append, nat_le, refl, ap, arith}
use Rattle.std.proofs.lemmas.Bool.{leb-true, leb-false}
use Rattle.gabc_nodes.specs.declared.node.Node.{Node}
use Rattle.gabc_tree.specs.Placed.{Reach, up_to, reach_to, first_of, node_in, nodes_at, reach_past, placed_from, reach_after}
use Rattle.gabc_tree.proofs.placed_nodes.Reaches.{up_more}

-- what stands before a byte stands before another, or after it
passed_more : (r : Reach) (f k : ℕ) → length (up_to r k) ≤ length (up_to r f) + length (up_to (reach_to r f) k)
passed_more r f k = by (nat_le f k) refl
  where
    by : (o : Bool) → nat_le f k ≡ o → length (up_to r k) ≤ length (up_to r f) + length (up_to (reach_to r f) k)
    by true e = let m = ap length (up_more r f k (leb-true f k e)) in let a = length-append (up_to r f) (up_to (reach_to r f) k) in omega (arith, m, a)
    by false e =
        let less = leb-false f k e in
        let m = ap length (up_more r k f (omega (arith, less))) in
        let a = length-append (up_to r k) (up_to (reach_to r k) f) in
        omega (arith, m, a)

-- each node is put, and all that is not kept up to a byte
pub count_least : (nodes : List Node) (r : Reach) (k : ℕ) → length nodes + length (up_to r k) ≤ length (placed_from r nodes) + length (up_to (reach_after r nodes) k)
count_least [] r k = omega arith
count_least (n ∷ ns) r k =
    let later = count_least ns (reach_past r n) k in
    let more = passed_more r (first_of n) k in
    let all = length-append (nodes_at r n) (placed_from (reach_past r n) ns) in
    let here = length-append (up_to r (first_of n)) (node_in r n ∷ []) in
    omega (arith, later, more, all, here)
