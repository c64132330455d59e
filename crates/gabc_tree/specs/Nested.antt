-- Nodes that lie in one another.
use Rattle.std.specs.Prelude.{ℕ, ◌≡◌, ◌≤◌, List, [], ◌∷◌, ◌++◌, length}
use Rattle.gabc_nodes.specs.declared.kind.Kind.TheVariants.{File}
use Rattle.gabc_nodes.specs.declared.node.Node.{Node}

-- The nodes lie one after the other between two bytes. In each lie the nodes after it that its
-- count covers, in the same way.
pub data AreNested : ℕ → ℕ → List Node → Type 0 where
  over : {from to : ℕ} → from ≤ to → AreNested from to []
  node : {from to : ℕ} {n : Node} {inside after : List Node} → from ≤ n.begin → length inside ≡ n.inner → AreNested n.begin n.end inside → AreNested n.end to after → AreNested from to (n ∷ inside ++ after)

-- The nodes are one tree of an input of that length: the first is the whole input, and the others
-- lie in it.
pub record AreOneTree (len : ℕ) (nodes : List Node) : Type 0 where
  pub file : Node
  pub inside : List Node
  pub nodes_are : nodes ≡ file ∷ inside
  pub kind_is : file.kind ≡ File
  pub begin_is : file.begin ≡ 0
  pub end_is : file.end ≡ len
  pub inner_is : file.inner ≡ length inside
  pub nested : AreNested 0 len inside
