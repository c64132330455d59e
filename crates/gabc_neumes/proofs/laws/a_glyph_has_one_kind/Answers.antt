use Rattle.gabc_neumes.specs.Letters.{letters}
use Rattle.gabc_neumes.proofs.glyphs_of_notes.MachineReadsNeumes.{kinds_are_one}
use Rattle.gabc_neumes.proofs.laws.a_glyph_has_one_kind.Goals as goal

pub returns-clause-one : goal.returns-clause-one
returns-clause-one c = λ k j notes h i. kinds_are_one (letters notes) k j h i
