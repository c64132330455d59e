-- The nodes of the syllables of a body, one after the other.
use Rattle.std.specs.Prelude.{ℕ, List, [], ◌∷◌, ◌++◌}
use Rattle.gabc_neumes.specs.InForce.{InForce}
use Rattle.gabc_body.specs.Syllable.{PlacedSyllable}
use Rattle.gabc_nodes.specs.declared.node.Node.{Node}
use Rattle.gabc_tree.specs.SyllableNodes.{force_past_syllable}
use Rattle.gabc_tree.specs.Tree.{body_nodes, body_end, kept_characters}

-- the nodes so far, the kept characters of the body so far, the number of the next kept byte, and
-- the clef and the alterations in force there
pub record BodyState : Type 0 where
  pub nodes : List Node
  pub kept : List ℕ
  pub base : ℕ
  pub force : InForce

-- the clef and the alterations in force after syllables
abbrev pub force_past_syllables : InForce → List PlacedSyllable → InForce
force_past_syllables force [] = force
force_past_syllables force (s ∷ syllables) = force_past_syllables (force_past_syllable force s) syllables

-- the state with these syllables after those before
abbrev pub past_syllables : BodyState → List PlacedSyllable → BodyState
past_syllables b syllables = record {
  nodes = b.nodes ++ body_nodes b.base b.force syllables;
  kept = b.kept ++ kept_characters syllables;
  base = body_end b.base syllables;
  force = force_past_syllables b.force syllables;
}
