-- What the machine gives step by step is what the definitions say of the tokens ahead.
use Rattle.std.proofs.Common.{◌≡◌, ℕ, ◌+◌, ◌≤◌, List, [], ◌∷◌, ◌++◌, Bool, true, false, cond, refl, ap, sym, ◌∙◌, append-nil, length, length-append, reverse, arith}
use Rattle.gabc_places.specs.BoundedList.{BoundedList, extended_by}
use Rattle.gabc_places.specs.StageLaw.{Pushes, Finishes}
use Rattle.gabc_places.specs.declared.place.Char.{Char}
use Rattle.gabc_text.specs.declared.token_state.TokenState.{TokenState}
use Rattle.gabc_text.specs.declared.text_facts.TextFacts.{TextFacts}
use Rattle.gabc_text.specs.declared.progress.Progress.{Progress}
use Rattle.gabc_text.specs.declared.stage.TextStage.{TextStage}
use Rattle.gabc_text.specs.declared.text_event.TextEvent.{TextEvent}
use Rattle.gabc_text.specs.Token.{tokens}
use Rattle.gabc_text.specs.View.{along}
use Rattle.gabc_text.specs.Events.{codes_of, after_tokens, no_events_each}
use Rattle.gabc_text.specs.machine.TextStage.{push_stage, events_of_push, events_of_finish}
use Rattle.gabc_text.specs.ExampleTexts.{stands_for}
use Rattle.gabc_text.specs.witness.EventsLeft.{lists_past, lists_last, lists_ahead, events_left, characters_left}
use Rattle.gabc_text.proofs.machine.EventsStepByStep.{stepwise, stepwise_left}
use Rattle.gabc_text.proofs.machine.KeptOfOpenToken.{kept_held}
use Rattle.gabc_text.proofs.machine.TokensOneAfterAnother.{after_is, rest_done}
use Rattle.gabc_text.proofs.machine.ExampleTextIsRead.{least, holds_least, least_emitted}
use Rattle.gabc_text.proofs.machine.EventsFromAnyState.{emitted_in, stage_in, runs}

kept_none : (state : TokenState) → kept_held state [] ≡ []
kept_none state = grind arith

events_none : (read : List ℕ) (s : TextStage) (state : TokenState) → emitted_in read s state [] ≡ []
events_none read s state = grind arith

-- what a stage that goes on gives
goes_on : (state : TokenState) (facts : TextFacts) (progress : Progress) (t : List ℕ)
    → (lists_ahead (stands_for state) (record { state = state; facts = facts; progress = progress; ended = false }) (stands_for state ++ t) ≡ stepwise (record { state = state; facts = facts; progress = progress; ended = false }) t)
    × (after_tokens (stands_for state ++ t) ≡ stepwise_left (record { state = state; facts = facts; progress = progress; ended = false }) t)
goes_on state facts progress t =
    let s : TextStage = record { state = state; facts = facts; progress = progress; ended = false } in
    let run = runs t (stands_for state) s (least state) [] (stands_for state) (sym (append-nil (stands_for state))) (holds_least state) in
    let same = least_emitted state facts progress t in
    let stage_is : stage_in (stands_for state) s (least state) [] ≡ record { state = least state; facts = facts; progress = progress; ended = false } = rw (kept_none (least state)) refl in (
      ap (λ (x : List ℕ). along (lists_past (stands_for state) s) [] (tokens (stands_for state ++ t)) ++ lists_last (stands_for state) s (reverse (tokens (stands_for state ++ t))) x) (after_is (stands_for state ++ t))
          ∙ sym run.0
          ∙ ap (λ (x : List (List TextEvent)). x ++ stepwise (stage_in (stands_for state) s (least state) []) t) (events_none (stands_for state) s (least state))
          ∙ ap (λ (x : TextStage). stepwise x t) stage_is
          ∙ sym same.0,
      after_is (stands_for state ++ t) ∙ sym run.1 ∙ ap (λ (x : TextStage). stepwise_left x t) stage_is ∙ sym same.1,
    )

left_done : (s : TextStage) (t : List ℕ) → s.ended ≡ true → stepwise_left s t ≡ t
left_done s [] e = refl
left_done s (c ∷ t) e = rw e refl

pub rest_by : (s : TextStage) (t : List ℕ) → events_left s t ≡ cond s.ended ([] ∷ no_events_each t) (lists_ahead (stands_for s.state) s (stands_for s.state ++ t))
unfolding events_left
rest_by s t = refl

pub left_by : (s : TextStage) (t : List ℕ) → characters_left s t ≡ cond s.ended t (after_tokens (stands_for s.state ++ t))
unfolding characters_left
left_by s t = refl

-- what a stage still gives, step by step
pub rest_is : (s : TextStage) (t : List ℕ) → events_left s t ≡ stepwise s t
rest_is s t = rest_by s t ∙ by s.ended refl
  where
    by : (b : Bool) → s.ended ≡ b → cond b ([] ∷ no_events_each t) (lists_ahead (stands_for s.state) s (stands_for s.state ++ t)) ≡ stepwise s t
    by true e = sym (rest_done s t e)
    by false e = rw e ((goes_on s.state s.facts s.progress t).0)

pub left_is : (s : TextStage) (t : List ℕ) → characters_left s t ≡ stepwise_left s t
left_is s t = left_by s t ∙ by s.ended refl
  where
    by : (b : Bool) → s.ended ≡ b → cond b t (after_tokens (stands_for s.state ++ t)) ≡ stepwise_left s t
    by true e = sym (left_done s t e)
    by false e = rw e ((goes_on s.state s.facts s.progress t).1)

-- ---- the calls of a stage

few_emitted : (old new : BoundedList TextEvent) (xs : List TextEvent) → new ≡ extended_by old xs → length new.items ≤ length old.items + 8 → length xs ≤ 8
few_emitted old new xs e few = omega (arith, few, ap (λ (r : BoundedList TextEvent). length r.items) e, length-append old.items xs)

-- what a push does
pub push_emits : (stage next : TextStage) (x : Char) (old new : BoundedList TextEvent) → next ≡ push_stage stage x.c → new ≡ extended_by old (events_of_push stage x.c) → length new.items ≤ length old.items + 8
    → Pushes (λ cs. events_left stage (codes_of cs)) (λ cs. events_left next (codes_of cs)) x 8 old new
push_emits stage next x old new e f few = grind (arith, few_emitted, rest_is)

-- what the end does
pub finish_ends : (stage : TextStage) (old new : BoundedList TextEvent) → new ≡ extended_by old (events_of_finish stage) → length new.items ≤ length old.items + 8
    → Finishes {I = Char} (λ cs. events_left stage (codes_of cs)) 8 old new
finish_ends stage old new f few = grind (arith, few_emitted, rest_is)
