-- The findings of a score.
use Rattle.std.specs.Prelude.{◌≡◌, ℕ, List, [], false}
use Rattle.gabc_score.specs.declared.whole.ScoreRest.{ScoreRest}
use Rattle.gregorio.specs.declared.outcome.Outcome.{Outcome}
use Rattle.gregorio_c.specs.Answers.{IsOutcomeOf}

-- an outcome without the syllables of its score
abbrev pub without_syllables : Outcome → Outcome
without_syllables outcome = record outcome { score = record outcome.score { syllables = [] } }

-- the outcome of a whole score, by the rest of it without its syllables
abbrev pub outcome_with : ScoreRest → Outcome
outcome_with rest = record { score = record { book = rest.book; syllables = []; findings = rest.findings; fault = rest.fault }; broken = false }

-- It is the outcome of this score under the default limits, without the syllables.
pub record IsFound (score : List ℕ) (found : Outcome) : Type 0 where
  pub outcome : Outcome
  pub of : IsOutcomeOf score outcome
  pub is : found ≡ without_syllables outcome
