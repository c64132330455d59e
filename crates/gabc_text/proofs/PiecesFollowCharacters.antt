-- A stage emits no more pieces than it kept characters.
use Rattle.std.proofs.Math.Seq.{drop-append_seam}
use Rattle.std.proofs.Common.{◌≡◌, ◌&&◌, ◌+◌, ◌≤◌, ℕ, List, [], ◌∷◌, ◌++◌, Bool, not, cond, Option, Some, None, is_some, ap, ◌∙◌, length, drop, arith}
use Rattle.gabc_places.specs.declared.code.Code.{Code}
use Rattle.gabc_places.specs.declared.place.Place.{Place}
use Rattle.gabc_places.specs.BoundedList.{BoundedList, extended_by}
use Rattle.gabc_text.specs.declared.token.TokenKind.{TokenKind}
use Rattle.gabc_text.specs.declared.token.TagEffect.{TagEffect}
use Rattle.gabc_text.specs.declared.token.TagEffect.TheVariants as tag
use Rattle.gabc_text.specs.declared.token_state.TokenState.{TokenState}
use Rattle.gabc_text.specs.declared.token_state.Step.{Step}
use Rattle.gabc_text.specs.declared.token_state.Step.TheVariants.{Stays, Ends}
use Rattle.gabc_text.specs.declared.text_facts.TextFacts.{TextFacts}
use Rattle.gabc_text.specs.declared.progress.Progress.{Progress}
use Rattle.gabc_text.specs.declared.text_event.TextEnd.{TextEnd}
use Rattle.gabc_text.specs.declared.text_event.TextEnd.TheVariants as text_ending
use Rattle.gabc_text.specs.declared.text_event.TextPart.TheVariants as part
use Rattle.gabc_text.specs.declared.text_event.TextEvent.{TextEvent}
use Rattle.gabc_text.specs.declared.text_event.TextEvent.TheVariants as out
use Rattle.gabc_text.specs.declared.stage.TextStage.{TextStage}
use Rattle.gabc_text.specs.BuiltText.{kept_in}
use Rattle.gabc_text.specs.PiecesOwed.{pieces_in, PiecesArePaid}
use Rattle.gabc_text.specs.witness.PiecesOwed.{one_if, is_dollar, pieces_owed}
use Rattle.gabc_text.specs.View.{piece_kind, is_space}
use Rattle.gabc_text.specs.Events.{option_list_of}
use Rattle.gabc_text.specs.witness.EventsLeft.{findings_there}
use Rattle.gabc_text.specs.machine.TextFacts.{early_at, facts_after}
use Rattle.gabc_text.specs.machine.TokenState.{settled_kind, next_step, keep, kind_at_end}
use Rattle.gabc_text.specs.machine.TextStage.{char_event, token_stage, events_of_token, events_of_settling, events_of_settling_by, settle_stage, settle_stage_by, stage_after_step, events_of_step, stage_past_char, events_of_reading, events_of_end, end_stage, settled_push_stage, events_of_settled_push, read_stage, push_stage, events_of_push, events_of_finish, events_of_finish_by, progress_after, end_by}

-- With these events, of n pieces that were owed n still are.
pub record Pays (before : ℕ) (events : List TextEvent) (after : ℕ) : Type 0 where
  pub paid : pieces_in events + after ≤ before + length (kept_in events)

pieces_more : (xs ys : List TextEvent) → pieces_in (xs ++ ys) ≡ pieces_in xs + pieces_in ys
pieces_more [] ys = omega arith
pieces_more (out.Part (part.Piece p) ∷ xs) ys = let e = pieces_more xs ys in omega (arith, e)
pieces_more (_ ∷ xs) ys = pieces_more xs ys

kept_more : (xs ys : List TextEvent) → length (kept_in (xs ++ ys)) ≡ length (kept_in xs) + length (kept_in ys)
kept_more [] ys = omega arith
kept_more (out.Kept c ∷ xs) ys = let e = kept_more xs ys in omega (arith, e)
kept_more (_ ∷ xs) ys = kept_more xs ys

both : {a b c : ℕ} (xs ys : List TextEvent) → Pays a xs b → Pays b ys c → Pays a (xs ++ ys) c
both xs ys h k = record { paid = rw (pieces_more xs ys, kept_more xs ys) (let p = h.paid in let q = k.paid in omega (arith, p, q)) }

none_found : (a : ℕ) (p : Place) (cs : List Code) → Pays a (findings_there p cs) a
none_found a p [] = record { paid = omega arith }
none_found a p (c ∷ cs) = record { paid = (none_found a p cs).paid }

char_pays : (a : ℕ) (p : Place) (o : Option ℕ) → Pays a (option_list_of (char_event p o)) (a + one_if (is_some o))
char_pays a p o = grind arith

end_pays : (a : ℕ) (facts : TextFacts) (progress : Progress) (h : TextEnd) → Pays a (events_of_end facts progress h) a
end_pays a facts progress h = grind arith

-- ---- a token

-- what is owed but for a `$`
abbrev owed_between : TextStage → ℕ
owed_between t = one_if (is_some t.progress.blank) + one_if (t.facts.space && not t.facts.blank)

-- the characters of a token that is to pay for itself
abbrev price : TextFacts → TokenKind → TagEffect → ℕ
price facts k e = one_if (is_some (piece_kind k e)) + one_if (is_space k && not facts.space)

token_pays : (t : TextStage) (k : TokenKind) (e : TagEffect) (place : Place) (last : ℕ)
    → Pays (owed_between t + price t.facts k e) (events_of_token t.facts t.progress k e last) (pieces_owed (token_stage t k e place))
token_pays t k e place last = grind arith

-- ---- a character

-- what the character that ends a token keeps, and a `$` before it, pay for the token
abbrev StepPays : TextFacts → TokenState → ℕ → Step → Type 0
StepPays facts m c (Stays next) = one_if (is_dollar next) ≤ one_if (is_dollar m) + one_if (is_some (keep facts m c))
StepPays facts m c (Ends k e) = price facts k e ≤ one_if (is_dollar m) + one_if (is_some (keep facts m c))

step_pays : (facts : TextFacts) (c : ℕ) (m : TokenState) → StepPays facts m c (next_step m c)
step_pays facts c m = grind arith

went_pays : (t : TextStage) (c : ℕ) (w : Step) (last : ℕ) → StepPays t.facts t.state c w
    → Pays (pieces_owed t + one_if (is_some (keep t.facts t.state c))) (events_of_step (stage_past_char t c) w last) (pieces_owed (stage_after_step (stage_past_char t c) w))
went_pays t c (Stays next) last h = record { paid = omega (arith, h) }
went_pays t c (Ends k e) last h = record { paid = let p = (token_pays (stage_past_char t c) k e t.progress.next last).paid in omega (arith, h, p) }

read_pays : (t : TextStage) (c : ℕ) → Pays (pieces_owed t) (events_of_reading t c) (pieces_owed (read_stage t c))
read_pays t c =
    both _ _ (none_found (pieces_owed t) t.progress.place (option_list_of (early_at t.facts t.state c)))
    (both _ _ (char_pays (pieces_owed t) t.progress.next (keep t.facts t.state c)) (went_pays t c (next_step t.state c) t.progress.kept (step_pays t.facts c t.state)))

-- ---- a push, and the end

-- a `$` pays for the token that no character of its own ends
abbrev IsPaid : TokenState → Option TokenKind → Type 0
IsPaid m None = Unit {0}
IsPaid m (Some k) = (facts : TextFacts) → price facts k tag.Other ≤ one_if (is_dollar m)

settled_is_paid : (m : TokenState) (c : ℕ) → IsPaid m (settled_kind m c)
settled_is_paid m c = grind arith

end_is_paid : (m : TokenState) → IsPaid m (kind_at_end m)
end_is_paid m = grind arith

settle_pays : (t : TextStage) (o : Option TokenKind) → IsPaid t.state o → Pays (pieces_owed t) (events_of_settling_by t o) (pieces_owed (settle_stage_by t o))
settle_pays t None h = record { paid = omega arith }
settle_pays t (Some k) h = record { paid = let p = (token_pays t k tag.Other t.progress.next t.progress.start).paid in let q = h t.facts in omega (arith, p, q) }

pub push_pays : (t : TextStage) (c : ℕ) → Pays (pieces_owed t) (events_of_push t c) (pieces_owed (push_stage t c))
push_pays t c = by t.ended
  where
    at_end : (s : TextStage) (b : Bool) → Pays (pieces_owed s) (cond b (events_of_end s.facts s.progress text_ending.Notes) (events_of_reading s c)) (pieces_owed (cond b (end_stage s) (read_stage s c)))
    at_end s b = grind (arith, end_pays, read_pays)

    by : (b : Bool) → Pays (pieces_owed t) (cond b [] (events_of_settling t c ++ events_of_settled_push (settle_stage t c) c)) (pieces_owed (cond b t (settled_push_stage (settle_stage t c) c)))
    by b = grind (arith, both, settle_pays, settled_is_paid, at_end)

finish_pays : (t : TextStage) → Pays (pieces_owed t) (events_of_finish t) 0
finish_pays t = by t.ended
  where
    ended : (o : Option TokenKind) → IsPaid t.state o → Pays (pieces_owed t) (events_of_finish_by t o) 0
    ended None h = record { paid = let p = (end_pays (pieces_owed t) t.facts t.progress text_ending.Finished).paid in omega (arith, p) }
    ended (Some k) h =
        both _ _ (settle_pays t (Some k) h)
        (record { paid = let p = (end_pays (pieces_owed (settle_stage_by t (Some k))) (facts_after t.facts k tag.Other) (progress_after t.facts t.progress k tag.Other t.progress.next) (end_by k t.progress.place)).paid in omega (arith, p) })

    by : (b : Bool) → Pays (pieces_owed t) (cond b [] (events_of_finish_by t (kind_at_end t.state))) 0
    by b = grind (arith, ended, end_is_paid)

-- ---- the events in a room

pub in_room : (old new : BoundedList TextEvent) (events : List TextEvent) → new ≡ extended_by old events → drop (length old.items) new.items ≡ events
in_room old new events o = ap (λ (r : BoundedList TextEvent). drop (length old.items) r.items) o ∙ drop-append_seam old.items events

pub push_is_paid : (t : TextStage) (c : ℕ) (next : TextStage) (old new : BoundedList TextEvent) → next ≡ push_stage t c → new ≡ extended_by old (events_of_push t c)
    → PiecesArePaid t (drop (length old.items) new.items) next
push_is_paid t c next old new e o = rw (e, in_room old new (events_of_push t c) o) (push_pays t c).paid

pub finish_is_paid : (t : TextStage) (old new : BoundedList TextEvent) → new ≡ extended_by old (events_of_finish t)
    → pieces_in (drop (length old.items) new.items) ≤ pieces_owed t + length (kept_in (drop (length old.items) new.items))
finish_is_paid t old new o = rw (in_room old new (events_of_finish t) o) (let p = (finish_pays t).paid in omega (arith, p))
