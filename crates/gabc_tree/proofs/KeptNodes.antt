-- Nodes of kept bytes that lie in one another, with a byte in each or a mark round it.
use Rattle.std.proofs.Common.{◌≡◌, ◌≤◌, ℕ, ◌+◌, false, true, List, [], ◌∷◌, ◌++◌, length, sym, ap, subst, append_assoc, arith}
use Rattle.gabc_nodes.specs.declared.node.Node.{Node}
use Rattle.gabc_tree.specs.Nested.{AreNested, over, node}
use Rattle.gabc_tree.specs.Placed.{is_snippet}

-- The nodes lie in one another between two kept bytes. A node with no byte stands before the last
-- one, and a mark stands before and after what is a snippet's.
pub data AreKept : ℕ → ℕ → ℕ → List Node → Type 0 where
  none : {last from to : ℕ} → from ≤ to → AreKept last from to []
  part : {last from to : ℕ} {n : Node} {inside after : List Node} → from ≤ n.begin → n.begin + 1 ≤ n.end → is_snippet n.kind ≡ false → length inside ≡ n.inner → AreKept n.end n.begin n.end inside → AreKept last n.end to after → AreKept last from to (n ∷ inside ++ after)
  empty : {last from to : ℕ} {n : Node} {after : List Node} → from ≤ n.begin → n.begin ≡ n.end → n.begin + 1 ≤ last → is_snippet n.kind ≡ false → 0 ≡ n.inner → AreKept last n.end to after → AreKept last from to (n ∷ after)
  notes : {last from to : ℕ} {n : Node} {inside after : List Node} → from + 1 ≤ n.begin → n.end + 1 ≤ to → is_snippet n.kind ≡ true → length inside ≡ n.inner → AreKept n.end n.begin n.end inside → AreKept last n.end to after → AreKept last from to (n ∷ inside ++ after)

pub kept_order : (last from to : ℕ) (nodes : List Node) → AreKept last from to nodes → from ≤ to
kept_order last from to nodes (none h) = h
kept_order last from to nodes (part {n} {inside} {after} b w s c i a) = let x = kept_order last n.end to after a in omega (arith, b, w, x)
kept_order last from to nodes (empty {n} {after} b e w s c a) = let x = kept_order last n.end to after a in omega (arith, b, e, x)
kept_order last from to nodes (notes {n} {inside} {after} b w s c i a) = let x = kept_order n.end n.begin n.end inside i in omega (arith, b, w, x)

pub kept_sooner : (last from at to : ℕ) (nodes : List Node) → from ≤ at → AreKept last at to nodes → AreKept last from to nodes
kept_sooner last from at to nodes h (none g) = none (omega (arith, h, g))
kept_sooner last from at to nodes h (part {n} {inside} {after} b w s c i a) = part {n = n} {inside = inside} {after = after} (omega (arith, h, b)) w s c i a
kept_sooner last from at to nodes h (empty {n} {after} b e w s c a) = empty {n = n} {after = after} (omega (arith, h, b)) e w s c a
kept_sooner last from at to nodes h (notes {n} {inside} {after} b w s c i a) = notes {n = n} {inside = inside} {after = after} (omega (arith, h, b)) w s c i a

pub kept_both : (last from mid to : ℕ) (ms ns : List Node) → AreKept last from mid ms → AreKept last mid to ns → AreKept last from to (ms ++ ns)
kept_both last from mid to ms ns (none g) k = kept_sooner last from mid to ns g k
kept_both last from mid to ms ns (part {n} {inside} {after} b w s c i a) k =
    subst (AreKept last from to) (ap (λ (x : List Node). n ∷ x) (sym (append_assoc inside after ns)))
    (part {n = n} {inside = inside} {after = after ++ ns} b w s c i (kept_both last n.end mid to after ns a k))
kept_both last from mid to ms ns (empty {n} {after} b e w s c a) k = empty {n = n} {after = after ++ ns} b e w s c (kept_both last n.end mid to after ns a k)
kept_both last from mid to ms ns (notes {n} {inside} {after} b w s c i a) k =
    subst (AreKept last from to) (ap (λ (x : List Node). n ∷ x) (sym (append_assoc inside after ns)))
    (notes {n = n} {inside = inside} {after = after ++ ns} b (let h = kept_order last mid to ns k in omega (arith, w, h)) s c i (kept_both last n.end mid to after ns a k))

-- they lie in one another
pub are_nested : (last from to : ℕ) (nodes : List Node) → AreKept last from to nodes → AreNested from to nodes
are_nested last from to nodes (none h) = over h
are_nested last from to nodes (part {n} {inside} {after} b w s c i a) = node {n = n} {inside = inside} {after = after} b c (are_nested n.end n.begin n.end inside i) (are_nested last n.end to after a)
are_nested last from to nodes (empty {n} {after} b e w s c a) = node {n = n} {inside = []} {after = after} b c (over (omega (arith, e))) (are_nested last n.end to after a)
are_nested last from to nodes (notes {n} {inside} {after} b w s c i a) = node {n = n} {inside = inside} {after = after} (omega (arith, b)) c (are_nested n.end n.begin n.end inside i) (are_nested last n.end to after a)
