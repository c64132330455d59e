-- After the event that ends a text its stage gives nothing.
use Rattle.std.proofs.Common.{arith, ◌≡◌, ◌==◌, ◌&&◌, ◌||◌, ℕ, List, [], ◌∷◌, ◌++◌, Bool, true, false, cond, Option, Some, None, refl, ap, sym, ◌∙◌, append_assoc, append-nil, map, Decides}
use Rattle.std.specs.List.{list_any}
use Rattle.std.proofs.lemmas.List.Folds.{list_any-append}
use Rattle.gabc_places.specs.declared.code.Code.{Code}
use Rattle.gabc_places.specs.declared.place.Char.{Char}
use Rattle.gabc_places.specs.declared.place.Place.{Place}
use Rattle.gabc_places.specs.BoundedList.{BoundedList, extended_by}
use Rattle.gabc_places.specs.StageLaw.{concat_of, EmitsNothing, StopsAtEnd}
use Rattle.gabc_places.proofs.NothingAfterAnEnd.{stops-endless, stops-last}
use Rattle.gabc_text.specs.declared.token_state.Step.{Step}
use Rattle.gabc_text.specs.declared.text_facts.TextFacts.{TextFacts}
use Rattle.gabc_text.specs.declared.progress.Progress.{Progress}
use Rattle.gabc_text.specs.declared.text_event.TextEnd.{TextEnd}
use Rattle.gabc_text.specs.declared.text_event.TextEnd.TheVariants as text_ending
use Rattle.gabc_text.specs.declared.text_event.TextEvent.{TextEvent}
use Rattle.gabc_text.specs.declared.text_event.TextEvent.TheVariants as out
use Rattle.gabc_text.specs.declared.stage.TextStage.{TextStage}
use Rattle.gabc_text.specs.declared.token.TokenKind.{TokenKind}
use Rattle.gabc_text.specs.declared.token_state.TokenState.{TokenState}
use Rattle.gabc_text.specs.StageReports.{opener_of, begins_silently, is_in_comment, cut_place}
use Rattle.gabc_text.specs.machine.StageReports.{is_comment, opener_in, comment_in}
use Rattle.gabc_text.specs.declared.token.TagEffect.{TagEffect}
use Rattle.gabc_text.specs.declared.token.TagEffect.TheVariants.{Other}
use Rattle.gabc_text.specs.End.{is_end}
use Rattle.gabc_text.specs.machine.TokenState.{settled_kind, kind_at_end, is_plain}
use Rattle.gabc_text.specs.Events.{codes_of, option_list_of}
use Rattle.gabc_text.specs.witness.EventsLeft.{events_left, findings_there}
use Rattle.gabc_text.specs.machine.TextStage.{char_event, events_of_token, events_of_settling, events_of_settling_by, settle_stage, events_of_step, events_of_reading, events_of_end, end_stage, settled_push_stage, events_of_settled_push, read_stage, push_stage, events_of_push, finish_stage, events_of_finish, events_of_finish_by, progress_after, end_by}
use Rattle.gabc_text.specs.machine.TextFacts.{facts_after}
use Rattle.gabc_text.proofs.machine.EventsLeftAreThoseAhead.{rest_by, rest_is}
use Rattle.gabc_text.proofs.machine.EventsStepByStep.{stepwise}
use Rattle.gabc_text.proofs.events.EventsByPointAreEvents.{joined_nothing}

-- ---- a stage that is done gives nothing

pub ended_is_silent : (s : TextStage) (t : List ℕ) → s.ended ≡ true → concat_of (events_left s t) ≡ []
ended_is_silent s t e = grind (arith, rest_by, joined_nothing)

pub done_emits_nothing : (s : TextStage) → s.ended ≡ true → EmitsNothing (λ (cs : List Char). events_left s (codes_of cs))
done_emits_nothing s e cs = ended_is_silent s (codes_of cs) e

-- ---- which events are no end

pub record Endless (events : List TextEvent) : Type 0 where
  pub none : list_any is_end events ≡ false

endless-append : (a b : List TextEvent) → Endless a → Endless b → Endless (a ++ b)
endless-append a b e h = record { none = list_any-append is_end a b ∙ ap (λ (v : Bool). v || list_any is_end b) e.none ∙ h.none }

mapped_endless : {X : Type 0} (f : X → TextEvent) → ((x : X) → is_end (f x) ≡ false) → (xs : List X) → Endless (map f xs)
mapped_endless f h [] = record { none = refl }
mapped_endless f h (x ∷ xs) = record { none = rw (h x) (mapped_endless f h xs).none }

found_endless : (p : Place) (cs : List Code) → Endless (findings_there p cs)
found_endless p cs = mapped_endless (λ (c : Code). out.Found (record { place = p; code = c })) (λ c. refl) cs

char_endless : (p : Place) (c : Option ℕ) → Endless (option_list_of (char_event p c))
char_endless p c = grind arith

token_endless : (facts : TextFacts) (progress : Progress) (k : TokenKind) (s : TagEffect) (last : ℕ) → Endless (events_of_token facts progress k s last)
token_endless facts progress k s last = grind arith

settle_endless : (t : TextStage) (o : Option TokenKind) → Endless (events_of_settling_by t o)
settle_endless t o = grind arith

went_endless : (t : TextStage) (w : Step) (last : ℕ) → Endless (events_of_step t w last)
went_endless t w last = grind arith

read_endless : (t : TextStage) (c : ℕ) → Endless (events_of_reading t c)
read_endless t c = grind (arith, endless-append, found_endless, char_endless, went_endless)

-- ---- the end comes last

-- events without an end, and then one
pub record EndsLast (events : List TextEvent) : Type 0 where
  pub before : List TextEvent
  pub last : TextEvent
  pub events_are : events ≡ before ++ last ∷ []
  pub endless : Endless before

after : (a b : List TextEvent) → Endless a → EndsLast b → EndsLast (a ++ b)
after a b e l = record {
  before = a ++ l.before;
  last = l.last;
  events_are = ap (λ v. a ++ v) l.events_are ∙ sym (append_assoc a l.before (l.last ∷ []));
  endless = endless-append a l.before e l.endless;
}

end_last : (facts : TextFacts) (progress : Progress) (h : TextEnd) → EndsLast (events_of_end facts progress h)
end_last facts progress h = grind (arith, after, found_endless, mapped_endless)

last_stops : (next : TextStage) (events : List TextEvent) (old new : BoundedList TextEvent) → next.ended ≡ true → new ≡ extended_by old events → EndsLast events
    → StopsAtEnd is_end (λ (cs : List Char). events_left next (codes_of cs)) old new
last_stops next events old new d e l =
    stops-last is_end (λ (cs : List Char). events_left next (codes_of cs)) old new l.before l.last (e ∙ ap (extended_by old) l.events_are) l.endless.none (done_emits_nothing next d)

endless_stops : (next : TextStage) (events : List TextEvent) (old new : BoundedList TextEvent) → new ≡ extended_by old events → Endless events
    → StopsAtEnd is_end (λ (cs : List Char). events_left next (codes_of cs)) old new
endless_stops next events old new e n = stops-endless is_end (λ (cs : List Char). events_left next (codes_of cs)) old new events e n.none

-- ---- a push, and the end of the input

pub push_stops : (t : TextStage) (c : ℕ) (next : TextStage) (old new : BoundedList TextEvent) → next ≡ push_stage t c → new ≡ extended_by old (events_of_push t c)
    → StopsAtEnd is_end (λ (cs : List Char). events_left next (codes_of cs)) old new
push_stops t c next old new = by t.ended
  where
    settled : (b : Bool) → next ≡ cond b (end_stage (settle_stage t c)) (read_stage (settle_stage t c) c)
        → new ≡ extended_by old (events_of_settling t c ++ cond b (events_of_end (settle_stage t c).facts (settle_stage t c).progress text_ending.Notes) (events_of_reading (settle_stage t c) c))
        → StopsAtEnd is_end (λ (cs : List Char). events_left next (codes_of cs)) old new
    settled true e o =
        last_stops next _ old new (ap (λ (x : TextStage). x.ended) e) o
        (after _ _ (settle_endless t (settled_kind t.state c)) (end_last (settle_stage t c).facts (settle_stage t c).progress text_ending.Notes))
    settled false e o =
        endless_stops next _ old new o (endless-append _ _ (settle_endless t (settled_kind t.state c)) (read_endless (settle_stage t c) c))

    by : (d : Bool) → next ≡ cond d t (settled_push_stage (settle_stage t c) c) → new ≡ extended_by old (cond d [] (events_of_settling t c ++ events_of_settled_push (settle_stage t c) c))
        → StopsAtEnd is_end (λ (cs : List Char). events_left next (codes_of cs)) old new
    by true e o = endless_stops next [] old new o (record { none = refl })
    by false e o = settled (c == 40 && is_plain (settle_stage t c).state) e o

pub is_done : (t : TextStage) → (finish_stage t).ended ≡ true
is_done t = grind arith

pub finish_is_over : (t next : TextStage) → next ≡ finish_stage t → EmitsNothing (λ (cs : List Char). events_left next (codes_of cs))
finish_is_over t next e = done_emits_nothing next (ap (λ (x : TextStage). x.ended) e ∙ is_done t)

pub finish_stops : (t next : TextStage) (old new : BoundedList TextEvent) → next ≡ finish_stage t → new ≡ extended_by old (events_of_finish t)
    → StopsAtEnd is_end (λ (cs : List Char). events_left next (codes_of cs)) old new
finish_stops t next old new n = by t.ended
  where
    ended : (o : Option TokenKind) → new ≡ extended_by old (events_of_finish_by t o) → StopsAtEnd is_end (λ (cs : List Char). events_left next (codes_of cs)) old new
    ended None o = last_stops next _ old new (ap (λ (x : TextStage). x.ended) n ∙ is_done t) o (end_last t.facts t.progress text_ending.Finished)
    ended (Some k) o =
        last_stops next _ old new (ap (λ (x : TextStage). x.ended) n ∙ is_done t) o
        (after _ _ (token_endless t.facts t.progress k Other t.progress.start) (end_last (facts_after t.facts k Other) (progress_after t.facts t.progress k Other t.progress.next) (end_by k t.progress.place)))

    by : (d : Bool) → new ≡ extended_by old (cond d [] (events_of_finish_by t (kind_at_end t.state))) → StopsAtEnd is_end (λ (cs : List Char). events_left next (codes_of cs)) old new
    by true o = endless_stops next [] old new o (record { none = refl })
    by false o = ended (kind_at_end t.state) o

-- ---- where a text is cut

cut_after : (a b : List TextEvent) → Endless a → cut_place (a ++ b) ≡ cut_place b
cut_after [] b e = refl
cut_after (out.Ended h ∷ a) b e = absurd (let f = e.none in cc)
cut_after (_ ∷ a) b e = cut_after a b (record { none = e.none })

abbrev place_in : TextEnd → Option Place
place_in (text_ending.Cut p) = Some p
place_in _ = None

end_cuts : (facts : TextFacts) (progress : Progress) (h : TextEnd) → cut_place (events_of_end facts progress h) ≡ place_in h
end_cuts facts progress h = grind arith

-- the place at which the text of a stage would be cut is that of its opener
pub opener_told : (t : TextStage) → t.ended ≡ false → opener_of t ≡ opener_in t
opener_told t r = grind (arith, rest_is, append-nil, cut_after, token_endless, end_cuts)

-- ---- where a comment is open

-- a stage that goes on
abbrev running : TokenState → TextFacts → Progress → TextStage
running s facts progress = record { state = s; facts = facts; progress = progress; ended = false }

-- at a `(` nothing is emitted in a comment, and elsewhere something is
silent_at : (s : TokenState) (facts : TextFacts) (progress : Progress) → Decides (is_comment s) (events_of_push (running s facts progress) 40 ≡ [])
silent_at s facts progress = grind arith

-- a stage that goes on emits nothing with a `(` just in a comment
pub comment_told : (t : TextStage) → t.ended ≡ false → is_in_comment t ≡ comment_in t
comment_told t r =
    ap begins_silently (rest_is t (40 ∷ []))
    ∙ (ap (λ (b : Bool). begins_silently (stepwise (record t { ended = b }) (40 ∷ []))) r ∙ at_state t.state t.facts t.progress)
  where
    at_state : (s : TokenState) (facts : TextFacts) (progress : Progress) → begins_silently (stepwise (running s facts progress) (40 ∷ [])) ≡ is_comment s
    at_state s facts progress = grind arith

pub comment_silences : (t : TextStage) → t.ended ≡ false → Decides (is_in_comment t) ((later : List (List TextEvent)) × (events_left t (40 ∷ []) ≡ [] ∷ later))
comment_silences t r =
    let same : t ≡ running t.state t.facts t.progress = ap (λ (b : Bool). record t { ended = b }) r in
    let d = silent_at t.state t.facts t.progress in
    let push : events_of_push t 40 ≡ events_of_push (running t.state t.facts t.progress) 40 = ap (λ (u : TextStage). events_of_push u 40) same in
    let all : events_left t (40 ∷ []) ≡ events_of_push t 40 ∷ stepwise (push_stage t 40) [] = rest_is t (40 ∷ []) in (
      λ e. (stepwise (push_stage t 40) [], all ∙ ap (λ (l : List TextEvent). l ∷ stepwise (push_stage t 40) []) (push ∙ d.0 (sym (comment_told t r) ∙ e))),
      λ h. comment_told t r ∙ d.1 (sym push ∙ first_is (events_of_push t 40) (stepwise (push_stage t 40) []) h.0 (sym all ∙ h.1)),
    )
  where
    first_is : (a : List TextEvent) (b c : List (List TextEvent)) → a ∷ b ≡ [] ∷ c → a ≡ []
    first_is a b c e = cc
