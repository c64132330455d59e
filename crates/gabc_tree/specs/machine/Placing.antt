-- Nodes that are moved to their places in the input, one after the other.
use Rattle.std.specs.Prelude.{List}
use Rattle.gabc_nodes.specs.declared.node.Node.{Node}
use Rattle.gabc_tree.specs.Placed.{Reach}

-- the nodes so far, and what is not kept after the last one's first byte
pub record PlacingState : Type 0 where
  pub nodes : List Node
  pub reach : Reach
