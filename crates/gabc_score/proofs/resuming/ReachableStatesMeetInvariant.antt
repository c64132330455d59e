-- What holds of machines between two calls holds of each reachable stage.
use Rattle.std.proofs.Common.{◌≡◌, ◌≤◌, true, length, is_some, subst}
use Rattle.gabc_score.specs.declared.score_machine.ScoreMachine.{ScoreMachine}
use Rattle.gabc_score.specs.declared.score_machine.ScorePart.{ScorePart}
use Rattle.gabc_score.specs.declared.score_machine.ScorePart.TheVariants as score_part
use Rattle.gabc_score.specs.ScoreReports.{before_of, before_with}
use Rattle.gabc_score.specs.machine.ScoreMachine.{shown, IsInBody, IsScore, IsScoreAt}
use Rattle.gabc_score.specs.witness.IsReachable.{IsReachable}
use Rattle.gabc_score.specs.witness.ScoreStage.{ScoreStageState}
use Rattle.gabc_score.proofs.resuming.MachinesReadAgain.{in_body_by}

-- in the body, with one whole syllable at most
pub record IsRunning (m : ScoreMachine) : Type 0 where
  pub part : m.part ≡ score_part.Body
  pub body : IsInBody m
  pub few : length m.pair.gathered.made ≤ 1

pub at_state : (P : ScoreStageState → Type 0) → ((m : ScoreMachine) → IsScore m → P (shown m)) → (s : ScoreStageState) → IsReachable s → P s
at_state P law s h = subst P h.shows (law h.machine h.rests)

running : (m : ScoreMachine) → IsScore m → (m.part ≡ score_part.Body → length m.pair.gathered.made ≤ 1) → is_some (before_of (shown m)) ≡ true → IsRunning m
running m rests few runs = let body = in_body_by m.part (before_with m.body m.pair.contexts.before) runs in record { part = body; body = subst (λ (p : ScorePart). IsScoreAt p m) body rests; few = few body }

pub in_the_body : (P : ScoreStageState → Type 0) → ((m : ScoreMachine) → IsRunning m → P (shown m)) → (s : ScoreStageState) → IsReachable s → is_some (before_of s) ≡ true → P s
in_the_body P law s h = subst (λ (s : ScoreStageState). is_some (before_of s) ≡ true → P s) h.shows (λ runs. law h.machine (running h.machine h.rests h.few runs))

pub both_in_body : (P : ScoreStageState → ScoreStageState → Type 0) → ((a b : ScoreMachine) → IsRunning a → IsRunning b → P (shown a) (shown b))
    → (one other : ScoreStageState) → IsReachable one → IsReachable other → is_some (before_of one) ≡ true → is_some (before_of other) ≡ true → P one other
both_in_body P law one other h g runs too = in_the_body (λ (s : ScoreStageState). P s other) (λ a ra. in_the_body (λ (s : ScoreStageState). P (shown a) s) (λ b rb. law a b ra rb) other g too) one h runs
