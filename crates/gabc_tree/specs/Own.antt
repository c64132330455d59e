-- The bytes that belong to nodes: each to the innermost node that holds it.
use Rattle.std.specs.Prelude.{ℕ, ◌≡◌, ◌≤◌, List, [], ◌∷◌, ◌++◌, length}
use Rattle.std.specs.List.{slice_range, concat}
use Rattle.gabc_nodes.specs.declared.node.Node.{Node}

-- The own bytes of a node or of the input between two bytes, in order, if these nodes lie between
-- them: the bytes between two nodes belong to the one in which both lie.
pub data AreOwn (bytes : List ℕ) : ℕ → ℕ → List Node → List (List ℕ) → Type 0 where
  over : {from to : ℕ} → from ≤ to → AreOwn bytes from to [] (slice_range bytes from to ∷ [])
  node : {from to : ℕ} {n : Node} {inside after : List Node} {own more : List (List ℕ)} → from ≤ n.begin → length inside ≡ n.inner → AreOwn bytes n.begin n.end inside own → AreOwn bytes n.end to after more → AreOwn bytes from to (n ∷ inside ++ after) (slice_range bytes from n.begin ∷ own ++ more)

-- Each byte of an input belongs to one of its nodes: their own bytes join to the input.
pub record HaveAllBytes (bytes : List ℕ) (nodes : List Node) : Type 0 where
  pub own : List (List ℕ)
  pub are : AreOwn bytes 0 (length bytes) nodes own
  pub join : concat own ≡ bytes
