-- Pictures of a tree, and their texts as they are put.
use Rattle.std.specs.Prelude.{ℕ, ◌≡◌, List}
use Rattle.gabc_marks.specs.Heads.{shown_by_parts}
use Rattle.gabc_marks.specs.declared.picture.Picture.{Picture}
use Rattle.gabc_svg.specs.Page.{page_of}
use Rattle.gabc_svg.specs.Xml.{written}
use Rattle.gabc_nodes.specs.declared.node.Node.{Node}
use Rattle.gabc_draw.specs.Pitches.{shown_of_nodes}

-- its groups show what the tree is to show: the syllables in their order, each with its bytes; and
-- in each the heads of its notes in their order, each note once for each time that it sounds, at
-- its height
pub record IsPictureOf (nodes : List Node) (picture : Picture) : Type 0 where
  pub groups : shown_by_parts picture.parts.items ≡ shown_of_nodes nodes

-- what takes bytes by `taken` has taken the text of a picture of the tree
pub record Draws {P : Type 0} (taken : P → List ℕ → P) (nodes : List Node) (old new : P) : Type 0 where
  pub picture : Picture
  pub shows : IsPictureOf nodes picture
  pub put : new ≡ taken old (written (page_of picture))
