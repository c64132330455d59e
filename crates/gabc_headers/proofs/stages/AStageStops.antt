-- A stop, or the end, comes alone, and after it a stage of headers gives nothing.
use Rattle.std.proofs.Common.{◌≡◌, ℕ, List, [], ◌∷◌, ◌++◌, map, false, refl, ap, ◌∙◌, Result, Ok, Err, ◌⊎◌, inl, inr, arith}
use Rattle.std.specs.List.{list_any}
use Rattle.gabc_places.specs.BoundedList.{BoundedList, extended_by}
use Rattle.gabc_places.specs.StageLaw.{EmitsNothing, StopsAtEnd}
use Rattle.gabc_places.specs.declared.place.Char.{Char}
use Rattle.gabc_places.specs.declared.limits.Limits.{Limits}
use Rattle.gabc_places.specs.declared.code.Fault.{Fault}
use Rattle.gabc_places.specs.declared.code.Finding.{Finding}
use Rattle.gabc_places.proofs.NothingAfterAnEnd.{stops-endless, stops-last}
use Rattle.gabc_headers.specs.declared.heads.Heads.{Heads}
use Rattle.gabc_headers.specs.declared.heads.HeadFault.{HeadFault}
use Rattle.gabc_headers.specs.declared.head_event.HeadEvent.{HeadEvent}
use Rattle.gabc_headers.specs.declared.head_event.HeadEvent.TheVariants.{Found, Stop, Body, End}
use Rattle.gabc_headers.specs.Heads.{heads_of}
use Rattle.gabc_headers.specs.HeadEvents.{event_of_book, is_last_event}
use Rattle.gabc_headers.specs.witness.HeadEvents.{HeadProgress, reading, after_headers, over, IsAfterHeaders, events_by, progress_by, events_of_input, progress_after, events_of_end, events_at_end, events_left, new_findings}
use Rattle.gabc_headers.proofs.prefixes.EventsMakeHeads.{nothing_left}

pub over_is_silent : (limits : Limits) → EmitsNothing (events_left limits over)
over_is_silent limits xs = nothing_left limits xs

silent_both : (limits other : Limits) (xs : List (Result Char Fault)) → events_left limits over xs ≡ events_left other over xs
silent_both limits other [] = refl
silent_both limits other (x ∷ xs) = ap (λ (l : List (List HeadEvent)). [] ∷ l) (silent_both limits other xs)

-- after the headers it does not matter which they were
with_both_after : (limits other : Limits) (book more : List (List ℕ × List ℕ)) (xs : List (Result Char Fault)) → events_left limits (after_headers book) xs ≡ events_left other (after_headers more) xs
with_both_after limits other book more [] = refl
with_both_after limits other book more (Ok c ∷ xs) = ap (λ (l : List (List HeadEvent)). (Body c ∷ []) ∷ l) (with_both_after limits other book more xs)
with_both_after limits other book more (Err fault ∷ xs) = ap (λ (l : List (List HeadEvent)). (Stop fault ∷ []) ∷ l) (silent_both limits other xs)

pub after_agree : (limits other : Limits) (p q : HeadProgress) (xs : List (Result Char Fault)) → IsAfterHeaders p → IsAfterHeaders q → events_left limits p xs ≡ events_left other q xs
after_agree limits other (reading t) q xs h k = absurd h
after_agree limits other over q xs h k = absurd h
after_agree limits other (after_headers book) (reading t) xs h k = absurd k
after_agree limits other (after_headers book) over xs h k = absurd k
after_agree limits other (after_headers book) (after_headers more) xs h k = with_both_after limits other book more xs

-- events without an end, or an end alone, after which the stage is over
abbrev Stops : List HeadEvent → HeadProgress → Type 0
Stops events progress = (list_any is_last_event events ≡ false) ⊎ ((last : HeadEvent) × (events ≡ last ∷ []) × (progress ≡ over))

found_are_none : (fs : List Finding) → list_any is_last_event (map (λ f. Found f) fs) ≡ false
found_are_none [] = refl
found_are_none (f ∷ fs) = found_are_none fs

heads_are_none : (fs : List Finding) (book : List (List ℕ × List ℕ)) → list_any is_last_event (map (λ f. Found f) fs ++ event_of_book book ∷ []) ≡ false
heads_are_none [] book = refl
heads_are_none (f ∷ fs) book = heads_are_none fs book

character_stops : (t : List ℕ) (found : List Finding) (now : Result Heads HeadFault) → Stops (events_by found now) (progress_by t now)
character_stops t found now = grind (arith, heads_are_none, found_are_none)

input_stops : (limits : Limits) (progress : HeadProgress) (x : Result Char Fault) → Stops (events_of_input limits progress x) (progress_after limits progress x)
input_stops limits (reading t) (Ok c) = character_stops (t ++ c.c ∷ []) (new_findings limits t (t ++ c.c ∷ [])) (heads_of limits (t ++ c.c ∷ []))
input_stops limits (reading t) (Err fault) = inr (Stop fault, refl, refl)
input_stops limits (after_headers book) (Ok c) = inl refl
input_stops limits (after_headers book) (Err fault) = inr (Stop fault, refl, refl)
input_stops limits over x = inl refl

end_stops : (limits : Limits) (progress : HeadProgress) → Stops (events_of_end limits progress) over
end_stops limits (reading t) = by (heads_of limits t)
  where
    by : (now : Result Heads HeadFault) → Stops (events_at_end now) over
    by (Ok heads) = inl refl
    by (Err stopped) = inr (Stop stopped.fault, refl, refl)
end_stops limits (after_headers book) = inr (End, refl, refl)
end_stops limits over = inl refl

stops_by : (limits : Limits) (events : List HeadEvent) (progress : HeadProgress) (old new : BoundedList HeadEvent) → Stops events progress → new ≡ extended_by old events
    → StopsAtEnd is_last_event (events_left limits progress) old new
stops_by limits events progress old new (inl none) e = stops-endless is_last_event (events_left limits progress) old new events e none
stops_by limits events progress old new (inr last) e =
    stops-last is_last_event (events_left limits progress) old new [] last.0 (e ∙ ap (extended_by old) last.1) refl
    (λ xs. ap (λ (p : HeadProgress). Rattle.gabc_places.specs.StageLaw.concat_of (events_left limits p xs)) last.2 ∙ over_is_silent limits xs)

pub push_stops : (limits : Limits) (progress : HeadProgress) (x : Result Char Fault) (old new : BoundedList HeadEvent) → new ≡ extended_by old (events_of_input limits progress x)
    → StopsAtEnd is_last_event (events_left limits (progress_after limits progress x)) old new
push_stops limits progress x old new e = stops_by limits (events_of_input limits progress x) (progress_after limits progress x) old new (input_stops limits progress x) e

pub finish_stops : (limits : Limits) (progress : HeadProgress) (old new : BoundedList HeadEvent) → new ≡ extended_by old (events_of_end limits progress)
    → StopsAtEnd is_last_event (events_left limits over) old new
finish_stops limits progress old new e = stops_by limits (events_of_end limits progress) over old new (end_stops limits progress) e
