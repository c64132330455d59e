-- A score whose syllables a taker takes.
use Rattle.std.specs.Prelude.{◌≡◌, List}
use Rattle.gabc_body.specs.declared.score.Score.{Score}
use Rattle.gabc_body.specs.Syllable.{PlacedSyllable}
use Rattle.gabc_score.specs.declared.whole.ScoreRest.{ScoreRest}

-- A taker took the syllables of this score, and the rest has its headers, its findings and its
-- fault.
pub record SaysScore {Taker : Type 0} (given_by : Taker → List PlacedSyllable → Taker) (old new : Taker) (rest : ScoreRest) (score : Score) : Type 0 where
  pub taken : new ≡ given_by old score.syllables
  pub book : rest.book ≡ score.book
  pub findings : rest.findings ≡ score.findings
  pub fault : rest.fault ≡ score.fault
