-- The characters that are kept, one by one, and nodes that are joined one after the other.
use Rattle.std.specs.Prelude.{ℕ, List, ◌++◌, Bool, ◌||◌, ◌&&◌, ◌==◌, Option, option_to_list}
use Rattle.gabc_text.specs.Token.{is_blank}
use Rattle.gabc_nodes.specs.declared.node.Node.{Node}
use Rattle.gabc_tree.specs.NotKept.{joined}

-- the nodes that are done, and the last one, which may be extended
pub record JoiningState : Type 0 where
  pub done : List Node
  pub last : Option Node

abbrev pub joined_after : JoiningState → List Node → List Node
joined_after j more = j.done ++ joined (option_to_list j.last ++ more)

-- the character d, which is to be kept, is c: a blank may be kept as U+0020
abbrev pub is_kept_as : ℕ → ℕ → Bool
is_kept_as d c = (c == d) || ((d == 32) && is_blank c)
