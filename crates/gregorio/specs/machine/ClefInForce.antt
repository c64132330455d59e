-- The clef in force after the syllables that are written, by whether a note or a clef has come in
-- GABC.
use Rattle.std.specs.Prelude.{◌≡◌, Bool, true, false, Option, None, is_none}
use Rattle.gabc_neumes.specs.declared.sound.Clef.{Clef}
use Rattle.gabc_score.specs.declared.score_machine.ScorePart.{ScorePart}
use Rattle.gabc_score.specs.declared.score_machine.ScorePart.TheVariants as score_part
use Rattle.gabc_score.specs.witness.ScoreStage.{ScoreStageState}
use Rattle.gregorio.specs.witness.Engine.{Written}

-- before the body there is none, and in the body none if nothing has sounded
abbrev pub IsClefIn : ScorePart → Bool → Option Clef → Type 0
IsClefIn score_part.Heads sounded clef = clef ≡ None
IsClefIn score_part.Body sounded clef = sounded ≡ false → clef ≡ None
IsClefIn score_part.Over sounded clef = Unit {0}

abbrev pub HasClefOfSounds : ScoreStageState → Written → Type 0
HasClefOfSounds s w = is_none w.ended ≡ true → IsClefIn s.part s.before.sounded w.force.clef
