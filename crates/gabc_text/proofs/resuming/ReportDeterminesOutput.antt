-- What a stage reports suffices for what it will emit.
use Rattle.std.proofs.Common.{arith, ◌≡◌, ◌==◌, ℕ, List, [], ◌∷◌, Bool, false, refl, sym, ap, ◌∙◌}
use Rattle.gabc_text.specs.declared.token_state.TokenState.{TokenState}
use Rattle.gabc_text.specs.declared.token_state.TokenState.TheVariants.{Dollar, Comment}
use Rattle.gabc_text.specs.declared.text_event.TextEvent.{TextEvent}
use Rattle.gabc_text.specs.declared.stage.TextStage.{TextStage}
use Rattle.gabc_text.specs.Token.{is_special}
use Rattle.gabc_text.specs.witness.EventsLeft.{events_left}
use Rattle.gabc_text.specs.witness.StageReports.{told}
use Rattle.gabc_text.specs.machine.TextStage.{push_stage, events_of_push, events_of_finish}
use Rattle.gabc_text.proofs.machine.EventsLeftAreThoseAhead.{rest_is}
use Rattle.gabc_text.proofs.machine.EventsStepByStep.{stepwise}

step_told : (s : TextStage) (c : ℕ) → (events_of_push s c ≡ events_of_push (told s) c) × (told (push_stage s c) ≡ told (push_stage (told s) c))
step_told s c = by s.state s.ended
  where
    by : (m : TokenState) (d : Bool) → let x : TextStage = record { state = m; facts = s.facts; progress = s.progress; ended = d } in
        (events_of_push x c ≡ events_of_push (told x) c) × (told (push_stage x c) ≡ told (push_stage (told x) c))
    by Dollar false = dollar (is_special c) refl
      where
        dollar : (b : Bool) → is_special c ≡ b → let x : TextStage = record { state = Dollar; facts = s.facts; progress = s.progress; ended = false } in
            (events_of_push x c ≡ events_of_push (told x) c) × (told (push_stage x c) ≡ told (push_stage (told x) c))
        dollar b e = grind arith
    by Comment false = comment (c == 10) refl
      where
        comment : (b : Bool) → c == 10 ≡ b → let x : TextStage = record { state = Comment; facts = s.facts; progress = s.progress; ended = false } in
            (events_of_push x c ≡ events_of_push (told x) c) × (told (push_stage x c) ≡ told (push_stage (told x) c))
        comment b e = grind arith
    by m d = (refl, refl)

end_told : (s : TextStage) → events_of_finish s ≡ events_of_finish (told s)
end_told s = grind arith

steps_told : (s : TextStage) (t : List ℕ) → stepwise s t ≡ stepwise (told s) t
steps_told s [] = ap (λ (os : List TextEvent). os ∷ []) (end_told s)
steps_told s (c ∷ t) = grind (arith, step_told, steps_told (push_stage s c) t, steps_told (push_stage (told s) c) t)

-- stages that report the same emit the same
pub told_suffices : (s r : TextStage) (t : List ℕ) → told s ≡ told r → events_left s t ≡ events_left r t
told_suffices s r t e = rest_is s t ∙ steps_told s t ∙ ap (λ (x : TextStage). stepwise x t) e ∙ sym (steps_told r t) ∙ sym (rest_is r t)
