-- What is collected of events is what the outputs say.
use Rattle.std.proofs.Common.{◌≡◌, ◌⊎◌, inl, inr, ℕ, zero, suc, ◌+◌, ◌<◌, List, [], ◌∷◌, ◌++◌, take, length, get_or, Option, Some, None, refl, sym, ap, ◌∙◌, append_assoc, append-nil, arith}
use Rattle.std.proofs.lemmas.List.{take_more}
use Rattle.gabc_places.specs.declared.code.Fault.{Fault}
use Rattle.gabc_body.specs.declared.body_result.BodyResult.{BodyResult}
use Rattle.gabc_score.specs.declared.score_event.BorrowedSyllable.{BorrowedSyllable}
use Rattle.gabc_score.specs.declared.score_event.BorrowedSyllable.TheVariants.{First, Second}
use Rattle.gabc_score.specs.declared.score_event.ScoreEvent.{ScoreEvent}
use Rattle.gabc_body.specs.ScoreEvents.{ScoreOutput, Found, Stop, Syllable, End, findings_in, syllables_in, fault_in}
use Rattle.gabc_score.specs.ScoreStage.{events_borrowed, events_of}
use Rattle.gabc_body.specs.Syllable.{PlacedSyllable}
use Rattle.gabc_score.specs.machine.Collected.{fault_then, result_with, result_past, result_past_all}

no_fault_then : (o : Option Fault) → fault_then o None ≡ o
no_fault_then o = grind arith

then_assoc : (a b c : Option Fault) → fault_then (fault_then a b) c ≡ fault_then a (fault_then b c)
then_assoc a b c = grind arith

pub with_none : (r : BodyResult) → result_with r [] ≡ r
with_none r = simp (append-nil, no_fault_then)

findings_more : (a b : List ScoreOutput) → findings_in (a ++ b) ≡ findings_in a ++ findings_in b
findings_more [] b = refl
findings_more (Found f ∷ a) b = ap (λ fs. f ∷ fs) (findings_more a b)
findings_more (_ ∷ a) b = findings_more a b

syllables_more : (a b : List ScoreOutput) → syllables_in (a ++ b) ≡ syllables_in a ++ syllables_in b
syllables_more [] b = refl
syllables_more (Syllable s ∷ a) b = ap (λ ss. s ∷ ss) (syllables_more a b)
syllables_more (_ ∷ a) b = syllables_more a b

fault_more : (a b : List ScoreOutput) → fault_in (a ++ b) ≡ fault_then (fault_in a) (fault_in b)
fault_more [] b = refl
fault_more (Stop f ∷ a) b = refl
fault_more (_ ∷ a) b = fault_more a b

-- outputs after outputs
pub with_more : (r : BodyResult) (a b : List ScoreOutput) → result_with (result_with r a) b ≡ result_with r (a ++ b)
with_more r a b = simp (syllables_more, findings_more, fault_more, append_assoc, then_assoc)

module _ (first second : PlacedSyllable) where
  -- the syllables that these names stand for from here on
  abbrev AreAhead : BorrowedSyllable → List PlacedSyllable → Type 0
  AreAhead First ahead = ahead ≡ first ∷ second ∷ []
  AreAhead Second ahead = (ahead ≡ second ∷ []) ⊎ (ahead ≡ [])

  none_of : (n : ℕ) → take {A = PlacedSyllable} n [] ≡ []
  none_of n = grind arith

  collected_from : (l : BorrowedSyllable) (ahead : List PlacedSyllable) (outputs : List ScoreOutput) (n : ℕ) → AreAhead l ahead → syllables_in outputs ≡ take n ahead → (r : BodyResult)
      → result_past_all first second r (events_borrowed l outputs) ≡ result_with r outputs
  collected_from l ahead [] n h e r = sym (with_none r)
  collected_from l ahead (Found f ∷ outputs) n h e r = collected_from l ahead outputs n h e (record r { findings = r.findings ++ f ∷ [] }) ∙ ap (λ fs. record { syllables = r.syllables ++ syllables_in outputs; findings = fs; fault = fault_then r.fault (fault_in outputs) }) (append_assoc r.findings (f ∷ []) (findings_in outputs))
  collected_from l ahead (Stop f ∷ outputs) n h e r = collected_from l ahead outputs n h e (record r { fault = fault_then r.fault (Some f) }) ∙ ap (λ o. record { syllables = r.syllables ++ syllables_in outputs; findings = r.findings ++ findings_in outputs; fault = o }) (then_assoc r.fault (Some f) (fault_in outputs))
  collected_from l ahead (End ∷ outputs) n h e r = collected_from l ahead outputs n h e r
  collected_from First ahead (Syllable s ∷ outputs) (suc n) h e r =
      let k : s ∷ syllables_in outputs ≡ first ∷ take n (second ∷ []) = e ∙ ap (take (suc n)) h in
      let i : (s ≡ first) × (syllables_in outputs ≡ take n (second ∷ [])) = (cc, cc) in
      collected_from Second (second ∷ []) outputs n (inl refl) i.1 (record r { syllables = r.syllables ++ first ∷ [] })
      ∙ ap (λ ss. record { syllables = ss; findings = r.findings ++ findings_in outputs; fault = fault_then r.fault (fault_in outputs) }) (append_assoc r.syllables (first ∷ []) (syllables_in outputs) ∙ ap (λ t. r.syllables ++ t ∷ syllables_in outputs) (sym i.0))
  collected_from Second ahead (Syllable s ∷ outputs) (suc n) (inr h) e r = absurd (let k : s ∷ syllables_in outputs ≡ [] = e ∙ ap (take (suc n)) h in cc)
  collected_from Second ahead (Syllable s ∷ outputs) (suc n) (inl h) e r =
      let k : s ∷ syllables_in outputs ≡ second ∷ take n [] = e ∙ ap (take (suc n)) h in
      let i : (s ≡ second) × (syllables_in outputs ≡ take n []) = (cc, cc) in
      collected_from Second [] outputs zero (inr refl) (i.1 ∙ none_of n) (record r { syllables = r.syllables ++ second ∷ [] })
      ∙ ap (λ ss. record { syllables = ss; findings = r.findings ++ findings_in outputs; fault = fault_then r.fault (fault_in outputs) }) (append_assoc r.syllables (second ∷ []) (syllables_in outputs) ∙ ap (λ t. r.syllables ++ t ∷ syllables_in outputs) (sym i.0))
  collected_from _ ahead (Syllable s ∷ outputs) zero h e r = absurd (cc)

  pub collected : (r : BodyResult) (outputs : List ScoreOutput) → syllables_in outputs ≡ take (length (syllables_in outputs)) (first ∷ second ∷ []) → result_past_all first second r (events_of outputs) ≡ result_with r outputs
  collected r outputs e = collected_from First (first ∷ second ∷ []) outputs (length (syllables_in outputs)) refl e r

  past_append : (r : BodyResult) (xs ys : List ScoreEvent) → result_past_all first second r (xs ++ ys) ≡ result_past_all first second (result_past_all first second r xs) ys
  past_append r [] ys = refl
  past_append r (x ∷ xs) ys = past_append (result_past first second r x) xs ys

  pub past_more : (r now next : BodyResult) (es : List ScoreEvent) (i : ℕ) (d : ScoreEvent) → i < length es → now ≡ result_past_all first second r (take i es)
      → next ≡ result_past first second now (get_or es i d) → next ≡ result_past_all first second r (take (i + 1) es)
  past_more r now next es i d h e k =
      k ∙ ap (λ r. result_past first second r (get_or es i d)) e ∙ sym (past_append r (take i es) (get_or es i d ∷ [])) ∙ ap (result_past_all first second r) (sym (take_more es i d h))
