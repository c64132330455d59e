-- A node before all of what is not kept stands as far on as bytes were passed.
use Rattle.std.proofs.Common.{◌≡◌, ◌+◌, ◌≤◌, ◌<◌, ◌^◌, ℕ, nat_lt, List, [], ◌∷◌, length, drop, slice_index_or, IsTrue, refl, ap, ◌∙◌, arith}
use Rattle.gabc_nodes.specs.declared.node.Node.{Node}
use Rattle.gabc_tree.specs.Placed.{Reach, bytes_in, before_byte, up_to, reach_to, byte_at, first_of, begin_of, inside_of, end_by, nodes_at, reach_past, moved}

none_before : (a b : ℕ) (out : List Node) → a ≤ b → before_byte b out ≡ [] → before_byte a out ≡ []
none_before a b [] h e = refl
none_before a b (s ∷ out) h e = grind arith

-- none is left, or the first one stands later
pub none_left : (n : ℕ) (out : List Node) → length out < 1 → before_byte n out ≡ []
none_left n [] h = refl
none_left n (s ∷ out) h = absurd (omega (arith, h))

pub first_later : (n : ℕ) (out : List Node) (other : Node) → 1 ≤ length out → IsTrue (nat_lt n (slice_index_or out 0 other).begin) → before_byte n out ≡ []
first_later n [] other some h = absurd (omega (arith, some))
first_later n (s ∷ out) other some h = grind (arith, h)

module _ (r : Reach) (n : Node) (order : n.begin ≤ n.end) (none : before_byte (n.end + r.passed) r.out ≡ []) where
  none_to : (k : ℕ) → k ≤ n.end → up_to r k ≡ []
  none_to k h = none_before (k + r.passed) (n.end + r.passed) r.out (omega (arith, h)) none

  stays : (k : ℕ) → k ≤ n.end → reach_to r k ≡ r
  stays k h =
      let none_here = none_to k h in
      ap (λ (u : List Node). let q : Reach = record { out = drop (length u) r.out; passed = r.passed + bytes_in u } in q) none_here
      ∙ ap (λ (p : ℕ). let q : Reach = record { out = r.out; passed = p } in q) (let same : r.passed + 0 ≡ r.passed = omega arith in same)

  at : (k : ℕ) → k ≤ n.end → byte_at r k ≡ k + r.passed
  at k h = ap (λ (q : Reach). k + q.passed) (stays k h)

  first_within : first_of n ≤ n.end
  first_within = grind arith

  pub ahead_reach : reach_past r n ≡ r
  ahead_reach = stays (first_of n) first_within

  begins : begin_of r n ≡ r.passed + n.begin
  begins = grind (arith, at)

  ends : (begin : ℕ) → begin ≡ r.passed + n.begin → end_by r begin n ≡ r.passed + n.end
  ends begin e = grind (arith, at)

  empty : inside_of r n ≡ []
  empty = grind (arith, none_to)

  pub ahead_nodes : n.inner < 2 ^ 32 → nodes_at r n ≡ moved r.passed n ∷ []
  ahead_nodes few = grind (arith, ahead_reach, begins, ends, empty, none_to, first_within)
