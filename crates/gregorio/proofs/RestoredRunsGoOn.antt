-- Of what an engine saves no fault reports but the want of memory.
use Rattle.std.proofs.Common.{◌≡◌, ℕ, ◌++◌, List, drop, length, take, Result, Err, ap, subst, ◌∙◌, arith}
use Rattle.std.proofs.Math.Seq.{take-append_seam}
use Rattle.gabc_places.specs.declared.limits.Limits.{Limits}
use Rattle.gregorio_jobs.specs.declared.job.Job.{Job}
use Rattle.gregorio_state.specs.Conditions.{AreStateFields}
use Rattle.gregorio_state.specs.Fields.{StateFields}
use Rattle.gregorio_state.specs.StateBytes.{state_bytes}
use Rattle.gregorio.specs.declared.state_fault.StateFault.{StateFault}
use Rattle.gregorio.specs.declared.state_fault.StateFault.TheVariants.{K0, K1, K2}
use Rattle.gregorio.specs.SavedState.{AreOfState, IsOfAnother, IsOfJob, IsState}

-- the front of the buffer into which they are written
pub written_front : (s : StateFields) (old new : List ℕ) (len : ℕ) → new ≡ state_bytes s ++ drop (length (state_bytes s)) old → len ≡ length (state_bytes s) → take len new ≡ state_bytes s
written_front s old new len written size = ap (λ (n : ℕ). take n new) size ∙ (ap (λ (bytes : List ℕ). take (length (state_bytes s)) bytes) written ∙ take-append_seam (state_bytes s) (drop (length (state_bytes s)) old))

module _ (job : Job) (limits : Limits) (s : StateFields) (bytes : List ℕ) (saved : bytes ≡ state_bytes s) (is : AreOfState s) (of : IsOfJob job limits s)
    (once : (one other : StateFields) → AreStateFields one → AreStateFields other → bytes ≡ state_bytes one → bytes ≡ state_bytes other → one ≡ other) where
  not_another : IsOfAnother job limits bytes → ⊥
  not_another a = a.other (subst (IsOfJob job limits) (once s a.s is.fields a.fields.fields saved a.is) of)

  pub memory : {A : Type 0} (fault : StateFault) → (◌≡◌ {A = Result A StateFault} (Err fault) (Err K1) → IsState bytes → ⊥) → (◌≡◌ {A = Result A StateFault} (Err fault) (Err K2) → IsOfAnother job limits bytes) → fault ≡ K0
  memory fault none other = grind (arith, not_another)
