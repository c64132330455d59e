-- The fields of a state are judged by its texts, under the limits that it reports.
use Rattle.std.proofs.Common.{◌≡◌, ◌↔◌, Bool, Result, Ok, Err, IfOk, IsTrue, subst, sym, arith}
use Rattle.gabc_places.specs.declared.limits.Limits.{Limits}
use Rattle.gabc_headers.specs.witness.HeadEvents.{HeaderStageState}
use Rattle.gabc_score.specs.witness.ScoreStage.{ScoreStageState}
use Rattle.gregorio_state.specs.Fields.{PhaseFields, StateFields}
use Rattle.gregorio.specs.SavedState.{AreOfState, IsPhaseRead, ReportsLimits}
use Rattle.gregorio.specs.machine.Restored.{StandIn, StandSo}
use Rattle.gregorio.specs.machine.Restoring.{AreFieldsIn}
use Rattle.gregorio.proofs.ReportedLimitsAreUnique.{told_once}

module _ (s : StateFields) (own : Limits) (tells : ReportsLimits s own) (phase : PhaseFields) (in_phase : AreFieldsIn phase s) where
  is : s.phase ≡ phase
  is = in_phase.phase_is

  pub read_so : IsPhaseRead own s phase → AreOfState s
  read_so read = record { fields = in_phase.fields; limits = own; limits_are = tells; read = subst (IsPhaseRead own s) (sym is) read }

  pub not_read : (IsPhaseRead own s phase → ⊥) → AreOfState s → ⊥
  not_read refused h = refused (subst (IsPhaseRead own s) is (subst (λ (l : Limits). IsPhaseRead l s s.phase) (told_once s h.limits own h.limits_are tells) h.read))

  -- the texts are read exactly if the fields are those of a state
  pub judged : (b : Bool) → IsTrue b ↔ IsPhaseRead own s phase → IsTrue b ↔ AreOfState s
  judged b both = (λ yes. read_so (both.0 yes), λ h. both.1 (subst (IsPhaseRead own s) is (subst (λ (l : Limits). IsPhaseRead l s s.phase) (told_once s h.limits own h.limits_are tells) h.read)))

  pub all_judged : {E : Type 0} (r : Result Bool E) → IfOk r (λ b. IsTrue b ↔ IsPhaseRead own s phase) → IfOk r (λ b. IsTrue b ↔ AreOfState s)
  all_judged (Ok b) both = judged b both
  all_judged (Err e) both = tt

  -- under the limits of a job whose state it is
  module _ (limits : Limits) (told : ReportsLimits s limits) where
    pub same : own ≡ limits
    same = told_once s own limits tells told

    pub stand_so : (h : HeaderStageState) (score : ScoreStageState) → score.limits ≡ limits → StandIn s phase limits h score → StandSo s limits h score
    stand_so h score at stand = record { limits_are = at; stand = subst (λ (p : PhaseFields). StandIn s p limits h score) (sym is) stand }

-- what holds whatever is answered
pub if_any : {A B C : Type 0} (r : Result A B) → C → IfOk r (λ x. C)
if_any r h = grind arith
