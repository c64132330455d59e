use Rattle.gabc_tree.specs.Tree.{tree_nodes}
use Rattle.gabc_tree.proofs.OwnBytes.{all_bytes}
use Rattle.gabc_tree.proofs.nested_laws.own_bytes_join_to_the_input.Goals as goal

pub returns : goal.returns
returns c = λ limits bytes short few. all_bytes bytes (tree_nodes limits bytes) (c.nodes_of_an_input_are_one_tree.ensures limits bytes short few)
