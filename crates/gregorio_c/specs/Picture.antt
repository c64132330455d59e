-- The picture of a score.
use Rattle.std.specs.Prelude.{◌≡◌, ℕ, List, [], ◌∷◌, length, Bool, true, false, ◌&&◌, ◌==◌, nat_le}
use Rattle.gabc_draw.specs.Drawn.{IsPictureOf}
use Rattle.gabc_marks.specs.declared.picture.Picture.{Picture}
use Rattle.gabc_places.specs.declared.limits.Limits.{Limits}
use Rattle.gabc_places.specs.Limits.{AreUsual}
use Rattle.gabc_svg.specs.Page.{page_of}
use Rattle.gabc_svg.specs.Xml.{written}
use Rattle.gabc_tree.specs.Tree.{tree_nodes}
use Rattle.gregorio_c.specs.Answers.{IsPut}
use Rattle.gregorio_c.specs.declared.picture_options.PictureOptions.{PictureOptions}

-- options of a picture: none, or one whose numbers are known
abbrev pub are_known : List PictureOptions → Bool
are_known [] = true
are_known (o ∷ []) = (o.version == 1) && (nat_le o.messages 2 && (o.reserved == 0))
are_known (o ∷ p ∷ ps) = false

-- The text of a picture of the score's tree under the default limits is in the buffer, if there is
-- room for it, and its length is reported.
pub record PictureAnswer (score old new : List ℕ) (count : ℕ) : Type 0 where
  pub limits : Limits
  pub usual : AreUsual limits.header limits.syllable limits.input
  pub picture : Picture
  pub shows : IsPictureOf (tree_nodes limits score) picture
  pub put : IsPut (written (page_of picture)) old new
  pub counted : count ≡ length (written (page_of picture))
