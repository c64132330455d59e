-- The tree of a score as records.
use Rattle.std.specs.Prelude.{◌≡◌, ℕ, List, length, map}
use Rattle.gabc_places.specs.declared.limits.Limits.{Limits}
use Rattle.gabc_places.specs.Limits.{AreUsual}
use Rattle.gabc_nodes.specs.Kind.{number_of}
use Rattle.gabc_nodes.specs.declared.node.Node.{Node}
use Rattle.gabc_tree.specs.Tree.{tree_nodes}
use Rattle.gregorio_c.specs.Answers.{IsPut}
use Rattle.gregorio_c.specs.declared.tree_node.TreeNode.{TreeNode}

-- the record of a node
abbrev pub record_of : Node → TreeNode
record_of n = record { begin = n.begin; end = n.end; inner = n.inner; kind = number_of n.kind; a = n.a; b = n.b; c = n.c }

-- The nodes of the score's tree under the default limits are in their buffer, if there is room for
-- them, and their number is reported.
pub record TreeAnswer (score : List ℕ) (old new : List TreeNode) (count : ℕ) : Type 0 where
  pub limits : Limits
  pub usual : AreUsual limits.header limits.syllable limits.input
  pub nodes : IsPut (map record_of (tree_nodes limits score)) old new
  pub counted : count ≡ length (tree_nodes limits score)
