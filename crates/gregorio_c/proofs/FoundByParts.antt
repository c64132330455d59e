-- What is found in a score, part by part.
use Rattle.std.proofs.Common.{◌≡◌, ℕ, List, true, Result, Ok, Err, IfOk, refl}
use Rattle.gabc_places.specs.declared.decoded.Decoded.{Decoded}
use Rattle.gabc_places.specs.declared.limits.Limits.{Limits}
use Rattle.gabc_places.specs.Text.{decoded_of}
use Rattle.gabc_body.specs.declared.ending.InputEnding.{InputEnding}
use Rattle.gabc_body.specs.declared.score.Score.{Score}
use Rattle.gabc_score.specs.declared.whole.ScoreRest.{ScoreRest}
use Rattle.gregorio.specs.declared.source_ending.SourceEnding.TheVariants.{Whole}
use Rattle.gabc_body.specs.Score.{score_of}
use Rattle.gabc_places.specs.Limits.{AreUsual}
use Rattle.gregorio.specs.declared.outcome.Outcome.{Outcome}
use Rattle.gregorio.specs.Outcome.{ending_by, outcome_of}
use Rattle.gregorio_c.specs.machine.Found.{IsFound, outcome_with, without_syllables}

pub found_by_parts : (limits : Limits) (bytes : List ℕ) (decoded : Decoded) (how : InputEnding) (rest : ScoreRest) (score : Score)
    → decoded ≡ decoded_of limits true bytes → how ≡ ending_by Whole decoded.fault → score ≡ score_of limits how decoded.text
    → rest.book ≡ score.book → rest.findings ≡ score.findings → rest.fault ≡ score.fault
    → outcome_with rest ≡ without_syllables (outcome_of limits Whole bytes)
found_by_parts limits bytes decoded how rest score d h s book findings fault = rw (book, findings, fault, s, h, d) refl

-- what is made under the default limits
pub whole_is_found : {E : Type 0} (usual : Limits) → AreUsual usual.header usual.syllable usual.input → (score : List ℕ) (made : Result Outcome E)
    → IfOk made (λ found. found ≡ without_syllables (outcome_of usual Whole score)) → IfOk made (λ found. IsFound score found)
whole_is_found usual is_usual score (Ok found) is = record { outcome = outcome_of usual Whole score; of = record { limits = usual; usual = is_usual; is = refl }; is = is }
whole_is_found usual is_usual score (Err e) is = tt
