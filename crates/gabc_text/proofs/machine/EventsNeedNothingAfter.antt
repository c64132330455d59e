-- What the machine gives does not depend on what follows.
use Rattle.std.proofs.Common.{◌≡◌, ℕ, suc, ◌+◌, ◌≤◌, List, [], ◌∷◌, ◌++◌, Bool, true, false, cond, refl, ap, ◌∙◌, length, length-append, take, arith}
use Rattle.std.proofs.lemmas.Bool.{false_from_ne_true, true_from_ne_false}
use Rattle.gabc_text.specs.declared.stage.TextStage.{TextStage}
use Rattle.gabc_text.specs.declared.text_event.TextEvent.{TextEvent}
use Rattle.gabc_text.specs.machine.TextStage.{push_stage, events_of_push}
use Rattle.gabc_text.proofs.machine.EventsStepByStep.{stepwise, stepwise_left}
use Rattle.gabc_text.specs.Events.{no_events_each}
use Rattle.gabc_text.proofs.machine.TokensOneAfterAnother.{rest_done}

pub each_emits : (s : TextStage) (t : List ℕ) → length (stepwise s t) ≡ length t + 1
each_emits s [] = refl
each_emits s (c ∷ t) = omega (arith, each_emits (push_stage s c) t)

pub prefix_emits : (s : TextStage) (t u v : List ℕ) → take (length t) (stepwise s (t ++ u)) ≡ take (length t) (stepwise s (t ++ v))
prefix_emits s [] u v = refl
prefix_emits s (c ∷ t) u v = ap (λ (x : List (List TextEvent)). events_of_push s c ∷ x) (prefix_emits (push_stage s c) t u v)

few_left : (s : TextStage) (t : List ℕ) → length (stepwise_left s t) ≤ length t
few_left s [] = omega arith
few_left s (c ∷ t) = by ((push_stage s c).ended) (few_left (push_stage s c) t)
  where
    by : (b : Bool) → length (stepwise_left (push_stage s c) t) ≤ length t → length (cond b (c ∷ t) (stepwise_left (push_stage s c) t)) ≤ suc (length t)
    by b h = grind arith

-- the `(` ends the text
ended_there : (s : TextStage) (u : List ℕ) → stepwise_left s (40 ∷ u) ≡ 40 ∷ u → (push_stage s 40).ended ≡ true
ended_there s u e = true_from_ne_false (push_stage s 40).ended (λ f.
    let g : stepwise_left (push_stage s 40) u ≡ 40 ∷ u = (rw f refl) ∙ e in
    omega (arith, few_left (push_stage s 40) u, ap (length {A = ℕ}) g))

-- no character before it does
not_before : (s : TextStage) (c : ℕ) (t u : List ℕ) → stepwise_left s (c ∷ (t ++ 40 ∷ u)) ≡ 40 ∷ u → (push_stage s c).ended ≡ false
not_before s c t u e = false_from_ne_true (push_stage s c).ended (λ f.
    let g : c ∷ (t ++ 40 ∷ u) ≡ 40 ∷ u = (rw f refl) ∙ e in
    omega (arith, ap (length {A = ℕ}) g, length-append t (40 ∷ u)))

pub left_through : (s : TextStage) (t u v : List ℕ) → stepwise_left s (t ++ 40 ∷ u) ≡ 40 ∷ u → stepwise_left s (t ++ 40 ∷ v) ≡ 40 ∷ v
left_through s [] u v e = rw (ended_there s u e) refl
left_through s (c ∷ t) u v e =
    let f = not_before s c t u e in
    let g : stepwise_left (push_stage s c) (t ++ 40 ∷ u) ≡ 40 ∷ u = rw f at e in
    rw f (left_through (push_stage s c) t u v g)

pub emitted_through : (s : TextStage) (t u v : List ℕ) → stepwise_left s (t ++ 40 ∷ u) ≡ 40 ∷ u → stepwise s (t ++ 40 ∷ v) ≡ take (length t + 1) (stepwise s (t ++ 40 ∷ u)) ++ ([] ∷ no_events_each v)
emitted_through s [] u v e = ap (λ (x : List (List TextEvent)). events_of_push s 40 ∷ x) (rest_done (push_stage s 40) v (ended_there s u e))
emitted_through s (c ∷ t) u v e =
    let f = not_before s c t u e in
    let g : stepwise_left (push_stage s c) (t ++ 40 ∷ u) ≡ 40 ∷ u = rw f at e in
    ap (λ (x : List (List TextEvent)). events_of_push s c ∷ x) (emitted_through (push_stage s c) t u v g)
    ∙ ap (λ (n : ℕ). take n (stepwise s (c ∷ t ++ 40 ∷ u)) ++ ([] ∷ no_events_each v)) (let h : suc (length t + 1) ≡ suc (length t) + 1 = omega arith in h)
