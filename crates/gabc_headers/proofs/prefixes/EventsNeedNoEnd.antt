-- What a stage of headers gives of the characters of a text does not wait for their end.
use Rattle.std.proofs.Common.{◌≡◌, ℕ, List, [], ◌∷◌, ◌++◌, length, take, map, Bool, true, false, refl, sym, ap, ◌∙◌, subst, Result, Ok, Err, append_assoc, append-nil, arith}
use Rattle.std.proofs.lemmas.List.{append_cancel_right}
use lib.Utf8.{scalars}
use Rattle.gabc_places.specs.declared.place.Char.{Char}
use Rattle.gabc_places.specs.declared.limits.Limits.{Limits}
use Rattle.gabc_places.specs.declared.code.Fault.{Fault}
use Rattle.gabc_places.specs.Place.{placed_characters_after}
use Rattle.gabc_places.specs.StageLaw.{concat_of}
use Rattle.gabc_headers.specs.declared.events.HeaderEvent.{HeaderEvent}
use Rattle.gabc_headers.specs.declared.head_event.HeadEvent.{HeadEvent}
use Rattle.gabc_headers.specs.declared.head_event.HeadEvent.TheVariants.{Found, Body, End}
use Rattle.gabc_headers.specs.declared.header_machine.HeaderMachine.{HeaderMachine}
use Rattle.gabc_headers.specs.declared.header_machine.HeaderStep.{HeaderStep}
use Rattle.gabc_headers.specs.declared.header_machine.HeaderStep.TheVariants.{Read, Ended}
use Rattle.gabc_headers.specs.declared.heads.Heads.{Heads}
use Rattle.gabc_headers.specs.declared.heads.HeadFault.{HeadFault}
use Rattle.gabc_headers.specs.Heads.{heads_of}
use Rattle.gabc_headers.specs.HeadEvents.{event_of_book, inputs_after, body_characters, events_of_heads, events_of_broken, events_of_stopped, emitted_by}
use Rattle.gabc_headers.specs.witness.HeadEvents.{HeadProgress, reading, after_headers, over, progress_by, progress_after, events_of_input, events_of_end, events_left}
use Rattle.gabc_headers.specs.machine.HeaderMachine.{push_one, fresh_machine}
use Rattle.gabc_headers.specs.machine.Events.{with_event}
use Rattle.gabc_headers.proofs.collecting.HeadsFollowFromEvents.{collected_of}
use Rattle.gabc_headers.proofs.prefixes.EventsMakeHeads.{IsNoText, no_text_push, concat-cons, EndsWith, stopped, whole, ends_with, open_progress, closed_progress, whole_is, read_emits, now_is, same_heads, events_make_heads}
use Rattle.gabc_headers.proofs.prefixes.HeadsSoFar.{HasRead, begin_read, read_more, heads_at, open_so_far}

-- ---- where a stage stands after inputs

abbrev pub progress_past : Limits → HeadProgress → List (Result Char Fault) → HeadProgress
progress_past limits progress [] = progress
progress_past limits progress (x ∷ xs) = progress_past limits (progress_after limits progress x) xs

pub stays_over : (limits : Limits) (xs : List (Result Char Fault)) → progress_past limits over xs ≡ over
stays_over limits [] = refl
stays_over limits (x ∷ xs) = stays_over limits xs

pub stays_after : (limits : Limits) (book : List (List ℕ × List ℕ)) (cs : List Char) → progress_past limits (after_headers book) (map (λ c. Ok c) cs) ≡ after_headers book
stays_after limits book [] = refl
stays_after limits book (c ∷ cs) = stays_after limits book cs

-- after a text it stands where the headers of the text say
abbrev StandsPast : Limits → List ℕ → List ℕ → Type 0
StandsPast limits held xs = progress_past limits (reading held) (inputs_after held xs) ≡ progress_by (held ++ xs) (heads_of limits (held ++ xs))

stands_at_end : (limits : Limits) (held : List ℕ) (r : HeaderMachine) (es : List HeaderEvent) → scalars held ≡ true → HasRead limits.header held r es → StandsPast limits held []
stands_at_end limits held r es u h = grind (arith, open_so_far, append-nil, open_progress)

stands_step : (limits : Limits) (held xs : List ℕ) (c : ℕ) (r : HeaderMachine) (es : List HeaderEvent) → scalars (held ++ c ∷ xs) ≡ true → HasRead limits.header held r es
    → ((new : HeaderMachine) (more : List HeaderEvent) → HasRead limits.header (held ++ c ∷ []) new more → StandsPast limits (held ++ c ∷ []) xs) → StandsPast limits held (c ∷ xs)
stands_step limits held xs c r es u h next = by (push_one r c) refl
  where
    by_end : (found : List _) (result : Result Heads HeadFault) → EndsWith found result → result ≡ heads_of limits (held ++ c ∷ []) → heads_of limits (held ++ c ∷ xs) ≡ heads_of limits (held ++ c ∷ [])
        → StandsPast limits held (c ∷ xs)
    by_end found result (stopped f e d g) now same =
        let closed : (t : List ℕ) → progress_by t (heads_of limits (held ++ c ∷ [])) ≡ over = λ t. ap (progress_by t) (sym now ∙ e) ∙ closed_progress t f d in
        ap (λ (p : HeadProgress). progress_past limits p (inputs_after (held ++ c ∷ []) xs)) (closed (held ++ c ∷ []))
        ∙ (stays_over limits (inputs_after (held ++ c ∷ []) xs)
        ∙ sym (ap (progress_by (held ++ c ∷ xs)) same ∙ closed (held ++ c ∷ xs)))
    by_end found result (whole heads more e g) now same =
        let after_is : (t : List ℕ) → progress_by t (heads_of limits (held ++ c ∷ [])) ≡ after_headers heads.book = λ t. ap (progress_by t) (sym now ∙ e) in
        ap (λ (p : HeadProgress). progress_past limits p (inputs_after (held ++ c ∷ []) xs)) (after_is (held ++ c ∷ []))
        ∙ (stays_after limits heads.book (placed_characters_after (held ++ c ∷ []) xs)
        ∙ sym (ap (progress_by (held ++ c ∷ xs)) same ∙ after_is (held ++ c ∷ xs)))

    by : (p : HeaderMachine × HeaderStep) → push_one r c ≡ p → StandsPast limits held (c ∷ xs)
    by (new, Read e) p =
        ap (λ (p : HeadProgress). progress_past limits p (inputs_after (held ++ c ∷ []) xs)) (read_emits limits held xs c r new es u h e p).1
        ∙ (next new (with_event es e) (read_more limits.header held r new es c e h p)
        ∙ ap (λ (t : List ℕ). progress_by t (heads_of limits t)) (whole_is limits held xs c r new es u h))
    by (new, Ended end) p =
        let none = subst (λ (x : HeaderMachine × HeaderStep). IsNoText x.1) p (no_text_push r c) in
        by_end (collected_of held es).findings (heads_at limits (held ++ c ∷ []) (collected_of held es) end) (ends_with limits (held ++ c ∷ []) (collected_of held es) end none)
        (now_is limits held xs c r new es u h end p) (same_heads limits held xs c r new es u h end none p)

pub stands : (limits : Limits) (xs held : List ℕ) (r : HeaderMachine) (es : List HeaderEvent) → scalars (held ++ xs) ≡ true → HasRead limits.header held r es → StandsPast limits held xs
stands limits [] held r es u h = stands_at_end limits held r es (subst (λ (x : List ℕ). scalars x ≡ true) (append-nil held) u) h
stands limits (c ∷ xs) held r es u h = stands_step limits held xs c r es u h
    (λ new more k. stands limits xs (held ++ c ∷ []) new more (subst (λ (x : List ℕ). scalars x ≡ true) (sym (append_assoc held (c ∷ []) xs)) u) k)

-- ---- what was given before the end, and at it

abbrev given_so_far : Limits → HeadProgress → List (Result Char Fault) → List HeadEvent
given_so_far limits progress xs = emitted_by false xs (events_left limits progress xs)

with_end : (limits : Limits) (progress : HeadProgress) (xs : List (Result Char Fault))
    → concat_of (events_left limits progress xs) ≡ given_so_far limits progress xs ++ events_of_end limits (progress_past limits progress xs)
with_end limits progress [] = concat-cons (events_of_end limits progress) [] ∙ append-nil (events_of_end limits progress)
with_end limits progress (x ∷ xs) =
    let now = events_of_input limits progress x in
    let next = progress_after limits progress x in
    concat-cons now (events_left limits next xs)
    ∙ (ap (λ (l : List HeadEvent). now ++ l) (with_end limits next xs)
    ∙ (sym (append_assoc now (given_so_far limits next xs) (events_of_end limits (progress_past limits next xs)))
    ∙ ap (λ (l : List HeadEvent). l ++ events_of_end limits (progress_past limits next xs)) (sym (concat-cons now (take (length xs) (events_left limits next xs))))))

pub with_input : (limits : Limits) (progress : HeadProgress) (xs : List (Result Char Fault)) (last : Result Char Fault)
    → given_so_far limits progress (xs ++ last ∷ []) ≡ given_so_far limits progress xs ++ events_of_input limits (progress_past limits progress xs) last
with_input limits progress [] last = concat-cons (events_of_input limits progress last) [] ∙ append-nil (events_of_input limits progress last)
with_input limits progress (x ∷ xs) last =
    let now = events_of_input limits progress x in
    let next = progress_after limits progress x in
    concat-cons now (take (length (xs ++ last ∷ [])) (events_left limits next (xs ++ last ∷ [])))
    ∙ (ap (λ (l : List HeadEvent). now ++ l) (with_input limits next xs last)
    ∙ (sym (append_assoc now (given_so_far limits next xs) (events_of_input limits (progress_past limits next xs) last))
    ∙ ap (λ (l : List HeadEvent). l ++ events_of_input limits (progress_past limits next xs) last) (sym (concat-cons now (take (length xs) (events_left limits next xs))))))

past_one_more : (limits : Limits) (progress : HeadProgress) (xs : List (Result Char Fault)) (last : Result Char Fault)
    → progress_past limits progress (xs ++ last ∷ []) ≡ progress_after limits (progress_past limits progress xs) last
past_one_more limits progress [] last = refl
past_one_more limits progress (x ∷ xs) last = past_one_more limits (progress_after limits progress x) xs last

-- after a fault nothing is given at the end
silent_after_fault : (limits : Limits) (progress : HeadProgress) (fault : Fault) → events_of_end limits (progress_after limits progress (Err fault)) ≡ []
silent_after_fault limits progress fault = grind arith

-- ---- by the headers of the text

broken_by : (limits : Limits) (t : List ℕ) (head_items : List HeadEvent) (r : Result Heads HeadFault) → heads_of limits t ≡ r → head_items ++ events_of_end limits (progress_by t r) ≡ events_of_heads t r
    → head_items ≡ events_of_broken t r
broken_by limits t head_items (Ok heads) e h =
    let found = map (λ f. Found f) heads.findings in
    append_cancel_right head_items (found ++ event_of_book heads.book ∷ map (λ c. Body c) (body_characters t)) (End ∷ [])
    (h ∙ sym (append_assoc found (event_of_book heads.book ∷ map (λ c. Body c) (body_characters t)) (End ∷ [])))
broken_by limits t head_items (Err stop) e h = grind (arith, append_cancel_right, append-nil)

stopped_by : (limits : Limits) (t : List ℕ) (fault : Fault) (r : Result Heads HeadFault) → events_of_broken t r ++ events_of_input limits (progress_by t r) (Err fault) ≡ events_of_stopped fault t r
stopped_by limits t fault r = grind (arith, append_assoc, append-nil)

module _ (limits : Limits) (t : List ℕ) (u : scalars t ≡ true) where
  abbrev head_items : List (Result Char Fault)
  head_items = inputs_after [] t

  pub standing : progress_past limits (reading []) head_items ≡ progress_by t (heads_of limits t)
  standing = stands limits t [] (fresh_machine limits.header) [] u (begin_read limits.header)

  pub broken_gives : emitted_by false head_items (events_left limits (reading []) head_items) ≡ events_of_broken t (heads_of limits t)
  broken_gives = broken_by limits t (given_so_far limits (reading []) head_items) (heads_of limits t) refl
      (ap (λ (p : HeadProgress). given_so_far limits (reading []) head_items ++ events_of_end limits p) (sym standing)
      ∙ (sym (with_end limits (reading []) head_items) ∙ events_make_heads limits t u))

  stopped_so_far : (fault : Fault) → given_so_far limits (reading []) (head_items ++ Err fault ∷ []) ≡ events_of_stopped fault t (heads_of limits t)
  stopped_so_far fault = grind (arith, with_input, broken_gives, standing, stopped_by)

  pub stopped_gives : (ended : Bool) (fault : Fault) → emitted_by ended (head_items ++ Err fault ∷ []) (events_left limits (reading []) (head_items ++ Err fault ∷ [])) ≡ events_of_stopped fault t (heads_of limits t)
  stopped_gives ended fault = grind (arith, stopped_so_far, with_end, past_one_more, silent_after_fault, append-nil)
