-- What is found where a body is read is found in the headers, in the body, or at its end.
use Rattle.std.proofs.Common.{◌≡◌, ℕ, ◌||◌, List, [], ◌∷◌, ◌++◌, Bool, cond, Option, sym, ap, subst, ◌∙◌}
use Rattle.std.specs.List.{All}
use Rattle.std.proofs.lemmas.List.Elements.{All-nil, All-cons, All-append}
use Rattle.gabc_places.specs.declared.place.Place.{Place}
use Rattle.gabc_places.specs.declared.code.Code.TheVariants.{W9, W11}
use Rattle.gabc_places.specs.declared.code.Finding.{Finding}
use Rattle.gabc_places.specs.declared.code.Fault.{Fault}
use Rattle.gabc_places.specs.declared.limits.Limits.{Limits}
use Rattle.gabc_body.specs.declared.events.BodyEvent.{BodyEvent}
use Rattle.gabc_body.specs.declared.ending.InputEnding.{InputEnding}
use Rattle.gabc_body.specs.Syllable.{is_eu, is_nlba}
use Rattle.gabc_body.specs.Body.{events_onto, findings_of, EventsToStop, result_by, result_whole, result_stopped, found_at_end, has_last}
use Rattle.gabc_body.proofs.order.FindingsOfParts.{found, found_append, found_onto}
use Rattle.gabc_body.proofs.order.FindingsOfScore.{IsFront, read_so}
use Rattle.gabc_body.proofs.order.FindingsOneAfterAnother.{all_first}
use Rattle.std.proofs.lemmas.Bool.{cond_both}

module _ (P : Finding → Type 0) (no_notes : (p : Place) → P (record { place = p; code = W9 })) (open_span : (p : Place) → P (record { place = p; code = W11 }))
    (limits : Limits) (head : ℕ) (fs : List Finding) (at : Place) (ts : List BodyEvent) (heads : All P fs) (body : All P (found ts)) where
  stopped_finds : (prefix more before : List BodyEvent) (fault : Option Fault) → ts ≡ prefix ++ more → before ≡ events_onto prefix [] → All P (result_stopped fs before fault).findings
  stopped_finds prefix more before fault e f =
      All-append P fs (findings_of before) heads
      (subst (All P) (sym (ap findings_of f ∙ found_onto prefix [])) (all_first P (found prefix) (found more) (subst (All P) (ap found e ∙ found_append prefix more) body)))

  one_if : (b : Bool) (f : Finding) → P f → All P (cond b (f ∷ []) [])
  one_if b f h = cond_both b (f ∷ []) [] (All P) (λ e. All-cons P f [] h (All-nil P)) (λ e. All-nil P)

  whole_finds : (all : List BodyEvent) → all ≡ events_onto ts [] → All P (result_whole fs at all).findings
  whole_finds all e =
      All-append P fs (findings_of all ++ found_at_end at all) heads
      (All-append P (findings_of all) (found_at_end at all) (subst (All P) (sym (ap findings_of e ∙ found_onto ts [])) body)
      (All-append P _ _ (one_if (has_last all) (record { place = at; code = W9 }) (no_notes at)) (one_if (is_eu all || is_nlba all) (record { place = at; code = W11 }) (open_span at))))

  -- this holds of all that is found, if it holds of what is found in the headers, in the body, and at its end
  pub read_finds : (ending : InputEnding) (r : EventsToStop) → IsFront [] ts r → All P (result_by limits head fs at ending r.before r.last r.fault).findings
  read_finds = read_so (λ w. All P w.findings) limits head fs at ts stopped_finds whole_finds
