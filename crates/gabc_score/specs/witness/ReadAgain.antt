-- The condition under which the kept text of a syllable can be read again. It holds of every stage
-- in the body, and nobody has to believe it.
use Rattle.std.specs.Prelude.{◌≡◌}
use Rattle.gabc_score.specs.declared.score_machine.ScorePart.TheVariants as score_part
use Rattle.gabc_score.specs.machine.ReadAgain.{IsReportedBy}
use Rattle.gabc_score.specs.witness.ScoreStage.{ScoreStageState}

-- The kept text of the current syllable can be read again.
pub record CanBeReadAgain (s : ScoreStageState) : Type 0 where
  pub body : s.part ≡ score_part.Body
  pub told : IsReportedBy s.body.nabc_lines s.body.macros s.limits.syllable s.body.part s.held.gathered.builder.kept
