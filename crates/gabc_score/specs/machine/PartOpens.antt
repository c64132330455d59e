-- The openers of a part of the body: each was open before a character, or is this character.
use Rattle.std.specs.Prelude.{◌≡◌, ◌⊎◌, ℕ, Some, None, false}
use Rattle.gabc_places.specs.declared.place.Char.{Char}
use Rattle.gabc_places.specs.declared.place.Place.{Place}
use Rattle.gabc_score.specs.declared.body_stage.BodyPart.{BodyPart}
use Rattle.gabc_score.specs.declared.body_tells.Openers.{Openers}
use Rattle.gabc_score.specs.ScoreReports.{IsAt, is_in_comment, openers_of}
use Rattle.gabc_score.specs.machine.PartKeeps.{KeptParts, PartKeeps}

-- After a character at this place the `(` of notes is the same; or there is none, or it is this
-- character, and nothing is open inside. The opener inside is the same, or this character, or there
-- is none.
pub record OpensOn (at : Place) (before after : Openers) : Type 0 where
  pub notes : (after.notes ≡ before.notes) ⊎ ((after.inner ≡ None) × ((after.notes ≡ None) ⊎ (after.notes ≡ Some at)))
  pub inner : (after.inner ≡ None) ⊎ ((after.inner ≡ before.inner) ⊎ (after.inner ≡ Some at))

-- so it is for a part that keeps parts of a kept text, at the character x
abbrev pub PartOpensOn : ℕ → ℕ → Char → BodyPart → BodyPart → Type 0
PartOpensOn lines macros x before after =
    (p : KeptParts) → PartKeeps lines macros before p → IsAt x.place before → OpensOn x.place (openers_of before) (openers_of after)

-- in such a part no comment is open after an LF
abbrev pub PartEndsLine : ℕ → ℕ → Char → BodyPart → BodyPart → Type 0
PartEndsLine lines macros x before after = (p : KeptParts) → PartKeeps lines macros before p → x.c ≡ 10 → is_in_comment after ≡ false
