-- The outputs of events that lend syllables.
use Rattle.std.proofs.Common.{◌≡◌, ℕ, zero, suc, ◌≤◌, Bool, cond, List, [], ◌∷◌, ◌++◌, map, take, length, refl, sym, ap, subst, ◌∙◌, arith, length-append, append-nil, append_assoc}
use Rattle.std.proofs.lemmas.List.{length-map, map-append, length-take-le}
use Rattle.gabc_places.specs.declared.code.Finding.{Finding}
use Rattle.gabc_places.specs.BoundedList.{BoundedList, extended_by}
use Rattle.gabc_score.specs.declared.score_event.BorrowedSyllable.{BorrowedSyllable}
use Rattle.gabc_score.specs.declared.score_event.BorrowedSyllable.TheVariants.{First, Second}
use Rattle.gabc_score.specs.declared.score_event.ScoreEvent.{ScoreEvent}
use Rattle.gabc_score.specs.declared.score_event.ScoreEvent.TheVariants as event
use Rattle.gabc_body.specs.ScoreEvents.{ScoreOutput, Found, Syllable, outputs_of, syllables_in}
use Rattle.gabc_score.specs.ScoreStage.{events_borrowed, events_of, GivesOutputs}
use Rattle.gabc_body.specs.Syllable.{PlacedSyllable}
use Rattle.gabc_score.specs.machine.SlotPair.{lent_of}
use Rattle.gabc_body.proofs.score_events.WhatOutputsSay.{given_syllables}

abbrev pub found_events : List Finding → List ScoreEvent
found_events fs = map (λ (f : Finding). event.Found f) fs

found_lent : (l : BorrowedSyllable) (fs : List Finding) (outputs : List ScoreOutput) → events_borrowed l (map (λ f. Found f) fs ++ outputs) ≡ found_events fs ++ events_borrowed l outputs
found_lent l [] outputs = refl
found_lent l (f ∷ fs) outputs = ap (λ es. event.Found f ∷ es) (found_lent l fs outputs)

module _ (fs : List Finding) (tail : List ScoreOutput) (last : List ScoreEvent) (none : syllables_in tail ≡ []) (last_is : (l : BorrowedSyllable) → events_borrowed l tail ≡ last) (first second : PlacedSyllable) where
  abbrev outs_of : ℕ → List ScoreOutput
  outs_of n = outputs_of fs (take n (first ∷ second ∷ [])) ++ tail

  assoc : (n : ℕ) → outs_of n ≡ map (λ f. Found f) fs ++ (map (λ s. Syllable s) (take n (first ∷ second ∷ [])) ++ tail)
  assoc n = append_assoc (map (λ f. Found f) fs) (map (λ s. Syllable s) (take n (first ∷ second ∷ []))) tail

  lent_are : (n : ℕ) → n ≤ 2 → events_of (map (λ s. Syllable s) (take n (first ∷ second ∷ [])) ++ tail) ≡ lent_of n ++ last
  lent_are zero h = last_is First
  lent_are (suc zero) h = ap (λ es. event.Syllable First ∷ es) (last_is Second)
  lent_are (suc (suc zero)) h = ap (λ es. event.Syllable First ∷ event.Syllable Second ∷ es) (last_is Second)
  lent_are (suc (suc (suc n))) h = absurd (omega (arith, h))

  all_events : (n : ℕ) → n ≤ 2 → events_of (outs_of n) ≡ found_events fs ++ (lent_of n ++ last)
  all_events n h = ap events_of (assoc n) ∙ found_lent First fs _ ∙ ap (λ es. found_events fs ++ es) (lent_are n h)

  pub emitted : (n : ℕ) (ss : List PlacedSyllable) → take n (first ∷ second ∷ []) ≡ ss → n ≤ 2 → length fs ≤ 10 → length last ≤ 1 → (old new : BoundedList ScoreEvent)
      → new ≡ extended_by old (found_events fs ++ (lent_of n ++ last)) → GivesOutputs (outputs_of fs ss ++ tail) old new first second
  emitted n ss e h few one old new k =
      let all = given_syllables fs (take n (first ∷ second ∷ [])) tail none in
      subst (λ ss. GivesOutputs (outputs_of fs ss ++ tail) old new first second) e (record {
        events = k ∙ ap (extended_by old) (sym (all_events n h));
        few = let l = length-append (found_events fs) (lent_of n ++ last) in
            let m = length-append (lent_of n) last in
            let f = length-map fs (λ (f : Finding). event.Found f) in
            let c = length-take-le n (event.Syllable First ∷ event.Syllable Second ∷ []) h in
            rw (all_events n h) (omega (arith, l, m, f, c, h, few, one));
        lent = all ∙ ap (λ k. take k (first ∷ second ∷ [])) (sym (ap length all ∙ length-take-le n (first ∷ second ∷ []) h));
      })

-- without anything after the syllables
pub now_emitted : (fs : List Finding) (first second : PlacedSyllable) (n : ℕ) (ss : List PlacedSyllable) → take n (first ∷ second ∷ []) ≡ ss → n ≤ 2 → length fs ≤ 10 → (old new : BoundedList ScoreEvent)
    → new ≡ extended_by old (found_events fs ++ lent_of n) → GivesOutputs (outputs_of fs ss) old new first second
now_emitted fs first second n ss e h few old new k =
    subst (λ outputs. GivesOutputs outputs old new first second) (append-nil (outputs_of fs ss))
    (emitted fs [] [] refl (λ l. refl) first second n ss e h few (omega arith) old new (k ∙ ap (λ es. extended_by old (found_events fs ++ es)) (sym (append-nil (lent_of n)))))

-- ---- a room that is extended step by step

pub then_more : {T : Type 0} (old mid new : BoundedList T) (a b : List T) → mid ≡ extended_by old a → new ≡ extended_by mid b → new ≡ extended_by old (a ++ b)
then_more old mid new a b h k = k ∙ ap (λ r. extended_by r b) h ∙ ap (λ xs. record old { items = xs }) (append_assoc old.items a b)

-- what is found at the end stands after what was found before
pub found_then : (old first second third : BoundedList ScoreEvent) (fs gs hs : List Finding) → first ≡ extended_by old (found_events fs) → second ≡ extended_by first (found_events gs) → third ≡ extended_by second (found_events hs)
    → third ≡ extended_by old (found_events (fs ++ (gs ++ hs)))
found_then old first second third fs gs hs a b c = grind (arith, then_more, map-append)

pub few_at_end : (fs : List Finding) (f g : Finding) (a b : Bool) → length fs ≤ 8 → length (fs ++ (cond a (f ∷ []) [] ++ cond b (g ∷ []) [])) ≤ 10
few_at_end fs f g a b h = grind (arith, length-append)
