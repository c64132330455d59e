-- Nodes that are joined one after the other.
use Rattle.std.proofs.Common.{◌≡◌, List, [], ◌∷◌, ◌++◌, ap, ◌∙◌, Bool, true, false, ◌&&◌, ◌==◌, append_assoc, Some, arith}
use Rattle.gabc_nodes.specs.declared.node.Node.{Node}
use Rattle.gabc_tree.specs.NotKept.{joins, joined, joined_to}
use Rattle.gabc_tree.specs.machine.NotKept.{joined_after}

abbrev go_on : Node → Node → Bool
go_on m n = joins m.kind n.kind && (m.end == n.begin)

goes_at : (m n : Node) (ns : List Node) → go_on m n ≡ true → joined_to (record m { end = n.end }) ns ≡ joined_to m (joined_to n ns)
goes_at m n [] is = grind arith
goes_at m n (k ∷ ks) is = grind arith

stays_at : (m n : Node) (ns : List Node) → go_on m n ≡ false → m ∷ joined_to n ns ≡ joined_to m (joined_to n ns)
stays_at m n [] is = grind arith
stays_at m n (k ∷ ks) is = grind arith

-- the last node goes on to the end of the one that is added
pub goes_on_joined : (done : List Node) (m n : Node) → go_on m n ≡ true → (more : List Node)
    → joined_after (record { done = done; last = Some (record m { end = n.end }) }) more ≡ joined_after (record { done = done; last = Some m }) (n ∷ more)
goes_on_joined done m n is more = ap (λ (ns : List Node). done ++ ns) (goes_at m n (joined more) is)

-- the last node is done
pub stays_joined : (done : List Node) (m n : Node) → go_on m n ≡ false → (more : List Node)
    → joined_after (record { done = done ++ m ∷ []; last = Some n }) more ≡ joined_after (record { done = done; last = Some m }) (n ∷ more)
stays_joined done m n is more = append_assoc done (m ∷ []) (joined (n ∷ more)) ∙ ap (λ (ns : List Node). done ++ ns) (stays_at m n (joined more) is)
