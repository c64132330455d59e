-- What is kept of the characters to come stands as in a text that begins where the next character stands.
use Rattle.std.proofs.lemmas.List.Elements.{All-nil, All-cons, All-head}
use Rattle.std.proofs.Common.{arith, ◌≡◌, ◌==◌, ◌&&◌, ℕ, List, [], ◌∷◌, ◌++◌, Bool, true, false, cond, Option, Some, None, take, append-nil, refl, sym, ap, ◌∙◌, subst}
use Rattle.std.specs.List.{All}
use Rattle.gabc_places.specs.Place.{saturating_next_place}
use Rattle.gabc_places.specs.StageLaw.{concat_of}
use Rattle.gabc_places.specs.declared.place.Char.{Char}
use Rattle.gabc_places.specs.declared.place.Place.{Place}
use Rattle.gabc_text.specs.BuiltText.{kept_chars_in, kept_in}
use Rattle.gabc_text.specs.Events.{option_list_of}
use Rattle.gabc_text.specs.StageReports.{IsNext, KeptIsPlaced}
use Rattle.gabc_text.specs.witness.StageReports.{next_of}
use Rattle.gabc_text.specs.declared.progress.Progress.{Progress}
use Rattle.gabc_text.specs.declared.stage.TextStage.{TextStage}
use Rattle.gabc_text.specs.declared.text_event.TextEnd.{TextEnd}
use Rattle.gabc_text.specs.declared.text_event.TextEnd.TheVariants as text_ending
use Rattle.gabc_text.specs.declared.text_event.TextEvent.{TextEvent}
use Rattle.gabc_text.specs.declared.text_event.TextEvent.TheVariants as out
use Rattle.gabc_text.specs.declared.text_facts.TextFacts.{TextFacts}
use Rattle.gabc_text.specs.declared.token.TokenKind.{TokenKind}
use Rattle.gabc_text.specs.declared.token_state.Step.{Step}
use Rattle.gabc_text.specs.machine.TextStage.{char_event, events_of_end, events_of_finish, events_of_push, events_of_reading, events_of_settling_by, events_of_step, push_stage, settle_stage, settle_stage_by}
use Rattle.gabc_text.specs.machine.Resuming.{placed}
use Rattle.gabc_text.specs.machine.TokenState.{is_plain, settled_kind}
use Rattle.gabc_text.specs.witness.EventsLeft.{end_events_by, events_left}
use Rattle.gabc_text.proofs.events.EventsBuildText.{kept_more}
use Rattle.gabc_text.proofs.machine.EventsLeftAreThoseAhead.{rest_is}
use Rattle.gabc_text.proofs.machine.EventsStepByStep.{stepwise}
use Rattle.gabc_text.proofs.resuming.EndsAndKept.{kept_said, no_found_kept, settling_kept}
use Rattle.gabc_text.proofs.resuming.PlacesAside.{IsPlaced, push_placed, push_same}
use Rattle.gabc_text.proofs.resuming.WhatStagesTell.{next_goes}

-- ---- events that keep nothing

end_kept : (facts : TextFacts) (p : Progress) (cut : Bool) (how : TextEnd) → kept_in (end_events_by facts p cut how) ≡ []
end_kept facts p cut how = grind arith

step_kept : (s : TextStage) (step : Step) (last : ℕ) → kept_in (events_of_step s step last) ≡ []
step_kept s step last = grind arith

finish_kept : (s : TextStage) → kept_in (events_of_finish s) ≡ []
finish_kept s = grind arith

-- ---- what a character keeps stands where it stands

abbrev StandAt : Place → List TextEvent → Type 0
StandAt p es = All (λ (x : Char). x.place ≡ p) (kept_chars_in es)

no_chars : (es : List TextEvent) → kept_in es ≡ [] → kept_chars_in es ≡ []
no_chars [] e = refl
no_chars (out.Kept c ∷ es) e = cc
no_chars (_ ∷ es) e = no_chars es e

none_stand : (p : Place) (es : List TextEvent) → kept_in es ≡ [] → StandAt p es
none_stand p es e = subst (λ (xs : List Char). All (λ (x : Char). x.place ≡ p) xs) (sym (no_chars es e)) (All-nil (λ (x : Char). x.place ≡ p))

stand_after : (p : Place) (a b : List TextEvent) → kept_in a ≡ [] → StandAt p b → StandAt p (a ++ b)
stand_after p [] b e stand = stand
stand_after p (out.Kept c ∷ a) b e stand = cc
stand_after p (_ ∷ a) b e stand = stand_after p a b e stand

char_stands : (p : Place) (o : Option ℕ) (es : List TextEvent) → kept_in es ≡ [] → StandAt p (option_list_of (char_event p o) ++ es)
char_stands p None es e = none_stand p es e
char_stands p (Some c) es e = All-cons (λ (x : Char). x.place ≡ p) (record { c = c; place = p }) (kept_chars_in es) refl (none_stand p es e)

read_stands : (s : TextStage) (c : ℕ) → StandAt (next_of s) (events_of_reading s c)
read_stands s c = grind (arith, stand_after, no_found_kept, char_stands, step_kept)

settled_stands : (s : TextStage) (o : Option TokenKind) (c : ℕ) → StandAt (next_of s) (events_of_reading (settle_stage_by s o) c)
settled_stands s o c = grind (arith, read_stands)

push_stands : (s : TextStage) (c : ℕ) → StandAt (next_of s) (events_of_push s c)
push_stands s c = by s.ended (settled_kind s.state c) (c == 40 && is_plain (settle_stage s c).state)
  where
    by : (d : Bool) (o : Option TokenKind) (b : Bool) → StandAt (next_of s) (cond d [] (events_of_settling_by s o
        ++ cond b (events_of_end (settle_stage_by s o).facts (settle_stage_by s o).progress text_ending.Notes) (events_of_reading (settle_stage_by s o) c)))
    by true o b = All-nil (λ (x : Char). x.place ≡ next_of s)
    by false o true = stand_after (next_of s) (events_of_settling_by s o) (events_of_end (settle_stage_by s o).facts (settle_stage_by s o).progress text_ending.Notes) (settling_kept s o)
        (none_stand (next_of s) (events_of_end (settle_stage_by s o).facts (settle_stage_by s o).progress text_ending.Notes) (end_kept (settle_stage_by s o).facts (settle_stage_by s o).progress false text_ending.Notes))
    by false o false = stand_after (next_of s) (events_of_settling_by s o) (events_of_reading (settle_stage_by s o) c) (settling_kept s o) (settled_stands s o c)

-- ---- what is kept of a text

-- a stage that has ended stays as it is
stays_ended : (s : TextStage) (c : ℕ) → s.ended ≡ true → (push_stage s c).ended ≡ true
stays_ended s c e = rw e refl

keeps_none : (s : TextStage) (c : ℕ) → s.ended ≡ true → kept_chars_in (events_of_push s c) ≡ []
keeps_none s c e = rw e refl

finish_stands : (p : Place) (s : TextStage) → KeptIsPlaced p [] (stepwise s [])
finish_stands p s = no_chars (events_of_finish s ++ []) (kept_more (events_of_finish s) [] ∙ rw (finish_kept s) refl)

ended_stands : (p : Place) (s : TextStage) (t : List ℕ) → s.ended ≡ true → KeptIsPlaced p t (stepwise s t)
ended_stands p s [] e = finish_stands p s
ended_stands p s (c ∷ t) e = (
  subst (λ (xs : List Char). All (λ (x : Char). x.place ≡ p) xs) (sym (keeps_none s c e)) (All-nil (λ (x : Char). x.place ≡ p)),
  ended_stands (saturating_next_place p c) (push_stage s c) t (stays_ended s c e),
)

going_stands : (s : TextStage) (t : List ℕ) → s.ended ≡ false → KeptIsPlaced (next_of s) t (stepwise s t)
going_stands s [] e = finish_stands (next_of s) s
going_stands s (c ∷ t) e = (push_stands s c, by (push_stage s c).ended refl (going_stands (push_stage s c) t))
  where
    by : (d : Bool) → (push_stage s c).ended ≡ d → ((push_stage s c).ended ≡ false → KeptIsPlaced (next_of (push_stage s c)) t (stepwise (push_stage s c) t))
        → KeptIsPlaced (saturating_next_place (next_of s) c) t (stepwise (push_stage s c) t)
    by true f later = ended_stands (saturating_next_place (next_of s) c) (push_stage s c) t f
    by false f later = subst (λ (p : Place). KeptIsPlaced p t (stepwise (push_stage s c) t)) (next_goes s c e f) (later f)

stands : (s : TextStage) (t : List ℕ) (d : Bool) → s.ended ≡ d → KeptIsPlaced (next_of s) t (stepwise s t)
stands s t d e = grind (arith, ended_stands, going_stands)

-- the next character stands where the stage says
pub is_next : (s : TextStage) → IsNext s (next_of s)
is_next s t = subst (λ (lists : List (List TextEvent)). KeptIsPlaced (next_of s) t lists) (sym (rest_is s t)) (stands s t s.ended refl)

-- ---- one place

head_stands : (p : Place) (x : Char) (xs ys : List Char) → ys ≡ x ∷ xs → All (λ (y : Char). y.place ≡ p) ys → x.place ≡ p
head_stands p x xs ys e all = All-head (λ (y : Char). y.place ≡ p) x xs (subst (λ (zs : List Char). All (λ (y : Char). y.place ≡ p) zs) e all)

first_stands : (p : Place) (c : ℕ) (x : Char) (xs : List Char) (lists : List (List TextEvent)) → kept_chars_in (concat_of (take 1 lists)) ≡ x ∷ xs
    → KeptIsPlaced p (c ∷ []) lists → x.place ≡ p
first_stands p c x xs lists e stand = grind (arith, head_stands, append-nil)

-- what is kept of a character stands at one place
pub one_place : (s : TextStage) (p q : Place) (c : ℕ) (x : Char) (xs : List Char) → kept_chars_in (concat_of (take 1 (events_left s (c ∷ [])))) ≡ x ∷ xs
    → IsNext s p → IsNext s q → p ≡ q
one_place s p q c x xs e there here = grind (arith, first_stands)

-- ---- where what is open begins elsewhere

same_place : (p q : Place) (es : List TextEvent) (c : ℕ) (cs : List ℕ) → kept_in es ≡ c ∷ cs → StandAt p es → StandAt q es → p ≡ q
same_place p q [] c cs e here there = cc
same_place p q (out.Kept x ∷ es) c cs e here there = sym (All-head (λ (y : Char). y.place ≡ p) x (kept_chars_in es) here) ∙ All-head (λ (y : Char). y.place ≡ q) x (kept_chars_in es) there
same_place p q (_ ∷ es) c cs e here there = same_place p q es c cs e here there

stand_too : (p q : Place) (a b : List TextEvent) → kept_in a ≡ kept_in b → StandAt p a → StandAt q a → StandAt q b → StandAt p b
stand_too p q a b e here there also = by (kept_in b) refl
  where
    by : (k : List ℕ) → kept_in b ≡ k → StandAt p b
    by [] f = none_stand p b f
    by (c ∷ cs) f = subst (λ (r : Place). StandAt r b) (sym (same_place p q a c cs (e ∙ f) here there)) also

same_kept : (s r : TextStage) (c : ℕ) → IsPlaced s r → kept_in (events_of_push s c) ≡ kept_in (events_of_push r c)
same_kept s r c is =
    sym (kept_said (events_of_push s c))
    ∙ ap kept_in (sym (push_same is.place is.next s c))
    ∙ kept_said (events_of_push (placed is.place is.next s) c)
    ∙ ap (λ (x : TextStage). kept_in (events_of_push x c)) (sym is.same)

-- if the characters that two stages keep stand from q on, and those of one of them from p on, so do
-- those of the other
placed_too : (s r : TextStage) (p q : Place) (t : List ℕ) → IsPlaced s r → KeptIsPlaced p t (stepwise s t) → KeptIsPlaced q t (stepwise s t) → KeptIsPlaced q t (stepwise r t) → KeptIsPlaced p t (stepwise r t)
placed_too s r p q [] is here there also = finish_stands p r
placed_too s r p q (c ∷ t) is here there also = (
  stand_too p q (events_of_push s c) (events_of_push r c) (same_kept s r c is) here.0 there.0 also.0,
  placed_too (push_stage s c) (push_stage r c) (saturating_next_place p c) (saturating_next_place q c) t
      (subst (λ (x : TextStage). IsPlaced (push_stage s c) (push_stage x c)) (sym is.same) (push_placed is.place is.next s c)) here.1 there.1 also.1,
)

pub next_stays : (s : TextStage) (at p : Place) → IsNext s p → IsNext (placed at (next_of s) s) p
next_stays s at p here t =
    let there = placed at (next_of s) s in
    subst (λ (lists : List (List TextEvent)). KeptIsPlaced p t lists) (sym (rest_is there t))
    (placed_too s there p (next_of s) t (record { place = at; next = next_of s; same = refl })
    (subst (λ (lists : List (List TextEvent)). KeptIsPlaced p t lists) (rest_is s t) (here t)) (stands s t s.ended refl) (stands there t s.ended refl))
