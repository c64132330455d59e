-- Texts as they are decoded from bytes.
use Rattle.std.specs.Prelude.{◌≢◌, ℕ, List, [], ◌∷◌}
use Rattle.std.specs.Char.{IsScalar}
use Rattle.std.specs.List.{All}
use Rattle.gabc_body.specs.SyllablesOfUnits.{ScoreUnit}

-- each character is a Unicode scalar value, and none is a CR or a U+FEFF
pub record IsText (t : List ℕ) : Type 0 where
  pub scalars : All IsScalar t
  pub plain : All (λ c. (c ≢ 13) × (c ≢ 0xFEFF)) t

-- so are the text and the notes of each of these units
abbrev pub AreUnitTexts : List ScoreUnit → Type 0
AreUnitTexts [] = Unit {0}
AreUnitTexts (u ∷ units) = (IsText u.text × IsText u.notes) × AreUnitTexts units
