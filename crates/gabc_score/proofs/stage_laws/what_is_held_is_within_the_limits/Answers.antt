use Rattle.std.specs.Prelude.{IfSome}
use Rattle.gabc_score.specs.ScoreStage.{IsWithinAnywhere}
use Rattle.gabc_score.specs.ScoreReports.{held_of}
use Rattle.gabc_score.specs.witness.ScoreStage.{ScoreStageState}
use Rattle.gabc_score.proofs.resuming.ReachableStatesMeetInvariant.{at_state}
use Rattle.gabc_score.proofs.score_events.PendingSyllableHoldsUnit.{held_within}
use Rattle.gabc_score.proofs.stage_laws.what_is_held_is_within_the_limits.Goals as goal

pub returns : goal.returns
returns c = at_state (λ (s : ScoreStageState). IfSome (held_of s) (IsWithinAnywhere s.limits)) (λ m. held_within m m.part)
