use Rattle.std.proofs.Common.{List, ℕ, length, refl, ap, string_bytes}
use Rattle.gabc_places.proofs.texts.CharactersOfStrings.{chars-none}
use Rattle.gabc_tree.specs.machine.NodesOfBodies.{alike}
use Rattle.gabc_tree.proofs.body_nodes.BodyNodes.after.Goals as goal

pub returns : goal.returns
returns c = alike c.move_all.ensures (chars-none (string_bytes c.new.result) (ap (λ (l : List ℕ). length l) c.new.ensures.bytes)) refl c.new-2.ensures
