-- The outputs of a stage are its events, with the syllables that it lends.
use Rattle.std.proofs.Common.{◌≡◌, ℕ, suc, List, [], ◌∷◌, ◌++◌, map, length, take, refl, sym, ap, ◌∙◌, append_assoc, arith}
use Rattle.gabc_places.specs.BoundedList.{BoundedList, extended_by}
use Rattle.gabc_places.specs.StageLaw.{concat_of, EmitsNothing, StopsAtEnd}
use Rattle.gabc_headers.specs.declared.head_event.HeadEvent.{HeadEvent}
use Rattle.gabc_score.specs.declared.score_event.BorrowedSyllable.{BorrowedSyllable}
use Rattle.gabc_score.specs.declared.score_event.BorrowedSyllable.TheVariants.{Second}
use Rattle.gabc_score.specs.declared.score_event.ScoreEvent.{ScoreEvent}
use Rattle.gabc_score.specs.declared.score_event.ScoreEvent.TheVariants as event
use Rattle.gabc_body.specs.ScoreEvents.{ScoreOutput, Found, Stop, Syllable, End, syllables_in}
use Rattle.gabc_score.specs.ScoreStage.{events_borrowed, events_of, is_last_event, events_left}
use Rattle.gabc_score.specs.witness.ScoreStage.{ScoreStageState, left_of}
use Rattle.gabc_body.specs.Syllable.{PlacedSyllable}
use Rattle.gregorio.specs.machine.ScoreWriter.{outputs_of_events}
use Rattle.gregorio.proofs.StreamsOfOutputs.{EndsAtLast, no_item}

take_none : (n : ℕ) → take {A = PlacedSyllable} n [] ≡ []
take_none n = grind arith

-- ---- the outputs

module _ (s : ScoreStageState) where
  emitted_none : (outputs : List ScoreOutput) → syllables_in outputs ≡ [] → outputs_of_events s (events_borrowed Second outputs) ≡ outputs
  emitted_none [] h = refl
  emitted_none (Found f ∷ outputs) h = ap (λ (l : List ScoreOutput). Found f ∷ l) (emitted_none outputs h)
  emitted_none (Stop fault ∷ outputs) h = ap (λ (l : List ScoreOutput). Stop fault ∷ l) (emitted_none outputs h)
  emitted_none (Syllable x ∷ outputs) h = no_item x (syllables_in outputs) h
  emitted_none (End ∷ outputs) h = ap (λ (l : List ScoreOutput). End ∷ l) (emitted_none outputs h)

  emitted_second : (outputs : List ScoreOutput) → syllables_in outputs ≡ take (length (syllables_in outputs)) (s.second ∷ []) → outputs_of_events s (events_borrowed Second outputs) ≡ outputs
  emitted_second [] h = refl
  emitted_second (Found f ∷ outputs) h = ap (λ (l : List ScoreOutput). Found f ∷ l) (emitted_second outputs h)
  emitted_second (Stop fault ∷ outputs) h = ap (λ (l : List ScoreOutput). Stop fault ∷ l) (emitted_second outputs h)
  emitted_second (Syllable x ∷ outputs) h = grind (arith, emitted_none, take_none)
  emitted_second (End ∷ outputs) h = ap (λ (l : List ScoreOutput). End ∷ l) (emitted_second outputs h)

  pub emitted_is : (outputs : List ScoreOutput) → syllables_in outputs ≡ take (length (syllables_in outputs)) (s.first ∷ s.second ∷ []) → outputs_of_events s (events_of outputs) ≡ outputs
  emitted_is [] h = refl
  emitted_is (Found f ∷ outputs) h = ap (λ (l : List ScoreOutput). Found f ∷ l) (emitted_is outputs h)
  emitted_is (Stop fault ∷ outputs) h = ap (λ (l : List ScoreOutput). Stop fault ∷ l) (emitted_is outputs h)
  emitted_is (Syllable x ∷ outputs) h = grind (arith, emitted_second)
  emitted_is (End ∷ outputs) h = ap (λ (l : List ScoreOutput). End ∷ l) (emitted_is outputs h)

-- ---- how many

pub as_many_emitted : (lent : BorrowedSyllable) (outputs : List ScoreOutput) → length (events_borrowed lent outputs) ≡ length outputs
as_many_emitted lent [] = refl
as_many_emitted lent (Syllable x ∷ outputs) = ap suc (as_many_emitted Second outputs)
as_many_emitted lent (_ ∷ outputs) = ap suc (as_many_emitted lent outputs)

none_emitted : (lent : BorrowedSyllable) (outputs : List ScoreOutput) → events_borrowed lent outputs ≡ [] → outputs ≡ []
none_emitted lent [] h = refl
none_emitted lent (Found f ∷ outputs) h = no_item _ _ h
none_emitted lent (_ ∷ outputs) h = no_item _ _ h

-- ---- where they stop

module _ {P : Type 0} (after : List HeadEvent → List (List ScoreEvent)) (old new : BoundedList ScoreEvent) (stops : StopsAtEnd is_last_event after old new) (score_is : EmitsNothing after → P) where
  one_on : (before : List ScoreEvent) (x : ScoreEvent) (later : List ScoreEvent) → new ≡ extended_by old (before ++ x ∷ later) → new ≡ extended_by old ((before ++ x ∷ []) ++ later)
  one_on before x later e = e ∙ ap (λ (l : List ScoreEvent). extended_by old l) (sym (append_assoc before (x ∷ []) later))

  pub ends_at_last : (lent : BorrowedSyllable) (before : List ScoreEvent) (outputs : List ScoreOutput) → new ≡ extended_by old (before ++ events_borrowed lent outputs) → EndsAtLast P outputs
  ends_at_last lent before [] e = tt
  ends_at_last lent before (Found f ∷ outputs) e = ends_at_last lent (before ++ event.Found f ∷ []) outputs (one_on before (event.Found f) (events_borrowed lent outputs) e)
  ends_at_last lent before (Stop fault ∷ outputs) e = grind (arith, none_emitted)
  ends_at_last lent before (Syllable x ∷ outputs) e = ends_at_last Second (before ++ event.Syllable lent ∷ []) outputs (one_on before (event.Syllable lent) (events_borrowed Second outputs) e)
  ends_at_last lent before (End ∷ outputs) e = grind (arith, none_emitted)

nothing_emitted : (lists : List (List ScoreOutput)) → concat_of (map (λ outputs. events_of outputs) lists) ≡ [] → concat_of lists ≡ []
nothing_emitted [] h = refl
nothing_emitted ([] ∷ lists) h = nothing_emitted lists h
nothing_emitted ((Found f ∷ outputs) ∷ lists) h = no_item _ _ h
nothing_emitted ((_ ∷ outputs) ∷ lists) h = no_item _ _ h

-- a stage that emits no event has no output left
pub nothing_left : (s : ScoreStageState) (xs : List HeadEvent) → EmitsNothing (events_left s) → concat_of (left_of s xs) ≡ []
nothing_left s xs h = nothing_emitted (left_of s xs) (h xs)
