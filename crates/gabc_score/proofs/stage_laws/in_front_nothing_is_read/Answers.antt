use Rattle.std.proofs.Common.{◌≡◌, true}
use Rattle.gabc_score.specs.ScoreReports.{IsInFront, is_in_front}
use Rattle.gabc_score.specs.witness.ScoreStage.{ScoreStageState}
use Rattle.gabc_score.proofs.resuming.ReachableStatesMeetInvariant.{in_the_body}
use Rattle.gabc_score.proofs.score_events.FrontIsFirst.{stands_there}
use Rattle.gabc_score.proofs.stage_laws.in_front_nothing_is_read.Goals as goal

pub returns : goal.returns
returns c = in_the_body (λ (s : ScoreStageState). is_in_front s.body.part ≡ true → IsInFront s) (λ m runs. stands_there m runs.part runs.body)
