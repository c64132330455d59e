-- The pending headers of a stage, from the first character on.
use Rattle.std.proofs.Common.{◌≡◌, ℕ, List, [], ◌∷◌, ◌++◌, map, false, refl, sym, ap, ◌∙◌, append-nil, Result, Ok, arith}
use Rattle.std.specs.Char.{IsScalar}
use Rattle.std.specs.List.{All}
use Rattle.std.proofs.lemmas.List.{map-append}
use Rattle.std.proofs.lemmas.List.Elements.{All-push}
use Rattle.gabc_places.specs.declared.place.Char.{Char}
use Rattle.gabc_places.specs.declared.code.Fault.{Fault}
use Rattle.gabc_places.specs.declared.code.Finding.{Finding}
use Rattle.gabc_places.specs.declared.limits.Limits.{Limits}
use Rattle.gabc_places.specs.Place.{place_after}
use Rattle.gabc_places.proofs.texts.PlacesOfCharacters.{placed-append}
use Rattle.gabc_places.proofs.decoding.PlainTextsAreReadAgain.{all_scalars}
use Rattle.gabc_headers.specs.declared.head_event.HeadEvent.{HeadEvent}
use Rattle.gabc_headers.specs.declared.head_event.HeadEvent.TheVariants.{Found}
use Rattle.gabc_headers.specs.HeadEvents.{emitted_by, inputs_after}
use Rattle.gabc_headers.specs.HeldText.{IsHeld, findings_held}
use Rattle.gabc_headers.specs.witness.HeadEvents.{HeadProgress, reading, events_left, events_of_input, new_findings, progress_by}
use Rattle.gabc_headers.proofs.prefixes.EventsMakeHeads.{open_progress}
use Rattle.gabc_headers.proofs.prefixes.EventsNeedNoEnd.{broken_gives, progress_past, standing, with_input}

pub held_at_first : (limits : Limits) → IsHeld limits []
held_at_first limits = record { stopped = _; heads = refl; at_end = refl }

abbrev so_far : Limits → List ℕ → List HeadEvent
so_far limits t = emitted_by false (inputs_after [] t) (events_left limits (reading []) (inputs_after [] t))

abbrev found : List Finding → List HeadEvent
found fs = map (λ f. Found f) fs

-- what a held text has emitted are its findings
found_alone : (limits : Limits) (t : List ℕ) → All IsScalar t → IsHeld limits t → so_far limits t ≡ found (findings_held limits t)
found_alone limits t scalars h = grind (arith, broken_gives, all_scalars, append-nil)

stands_held : (limits : Limits) (t : List ℕ) → All IsScalar t → IsHeld limits t → progress_past limits (reading []) (inputs_after [] t) ≡ reading t
stands_held limits t scalars h = standing limits t (all_scalars t scalars) ∙ ap (progress_by t) h.heads ∙ open_progress t h.stopped h.at_end

-- at a character after which the text is held what is found more is emitted
more_found : (limits : Limits) (t : List ℕ) (x : Char) → IsHeld limits (t ++ x.c ∷ []) → events_of_input limits (reading t) (Ok x) ≡ found (new_findings limits t (t ++ x.c ∷ []))
more_found limits t x h = grind arith

-- the findings among events
abbrev found_in : List HeadEvent → List Finding
found_in [] = []
found_in (Found f ∷ events) = f ∷ found_in events
found_in (_ ∷ events) = found_in events

found_back : (fs : List Finding) → found_in (found fs) ≡ fs
found_back [] = refl
found_back (f ∷ fs) = ap (λ (gs : List Finding). f ∷ gs) (found_back fs)

pub found_more_held : (limits : Limits) (t : List ℕ) (c : ℕ) → All IsScalar t → IsScalar c → IsHeld limits t → IsHeld limits (t ++ c ∷ [])
    → findings_held limits (t ++ c ∷ []) ≡ findings_held limits t ++ new_findings limits t (t ++ c ∷ [])
found_more_held limits t c scalars scalar held longer =
    let x : Char = record { c = c; place = place_after t } in
    let more = new_findings limits t (t ++ c ∷ []) in
    let inputs : inputs_after [] (t ++ c ∷ []) ≡ inputs_after [] t ++ Ok x ∷ [] =
    ap (λ (xs : List Char). map (λ c. Ok c) xs) (placed-append [] t (c ∷ [])) ∙ map-append (λ (c : Char). Ok c) _ (x ∷ []) in
    let split : so_far limits (t ++ c ∷ []) ≡ so_far limits t ++ events_of_input limits (reading t) (Ok x) =
    ap (λ (xs : List (Result Char Fault)). emitted_by false xs (events_left limits (reading []) xs)) inputs
    ∙ with_input limits (reading []) (inputs_after [] t) (Ok x)
    ∙ ap (λ (p : HeadProgress). so_far limits t ++ events_of_input limits p (Ok x)) (stands_held limits t scalars held) in
    let same : found (findings_held limits (t ++ c ∷ [])) ≡ found (findings_held limits t ++ more) =
    sym (found_alone limits (t ++ c ∷ []) (All-push IsScalar t c scalars scalar) longer)
    ∙ split
    ∙ ap (λ (events : List HeadEvent). events ++ events_of_input limits (reading t) (Ok x)) (found_alone limits t scalars held)
    ∙ ap (λ (events : List HeadEvent). found (findings_held limits t) ++ events) (more_found limits t x longer)
    ∙ sym (map-append (λ (f : Finding). Found f) (findings_held limits t) more) in
    sym (found_back (findings_held limits (t ++ c ∷ []))) ∙ ap found_in same ∙ found_back (findings_held limits t ++ more)
