-- After an end that a stage emits, it emits nothing.
use Rattle.std.proofs.Common.{◌≡◌, [], ◌∷◌, ◌++◌, Bool, true, false, cond, refl, ap, ◌∙◌, ℕ, Option, Some, None, option_to_list, arith}
use Rattle.std.specs.List.{list_any}
use Rattle.gabc_places.specs.declared.code.Code.TheVariants.{E6}
use Rattle.gabc_places.specs.declared.place.Char.{Char}
use Rattle.gabc_places.specs.BoundedList.{BoundedList, extended_by}
use Rattle.gabc_places.specs.StageLaw.{EmitsNothing, StopsAtEnd}
use Rattle.gabc_notes.specs.Ends.{is_ended}
use Rattle.gabc_notes.specs.declared.stage.NoteEnd.TheVariants.{Cut}
use Rattle.gabc_notes.specs.declared.stage.NoteEvent.{NoteEvent}
use Rattle.gabc_notes.specs.declared.stage.NoteEvent.TheVariants.{Ended}
use Rattle.gabc_places.proofs.NothingAfterAnEnd.{stops-endless, stops-last}
use Rattle.gabc_nabc.specs.witness.DescriptorMachine.{events_in, event_list, role_at, facts_at, next_at, stage_events_at, stage_after, stage_moved_on, events_of_cut, events_left}
use Rattle.gabc_notes.specs.Events.{finding_event, end_by_mark}
use Rattle.gabc_nabc.specs.declared.stage.NabcStage.{NabcStage}
use Rattle.gabc_nabc.specs.declared.stage.NabcRole.{NabcRole}
use Rattle.gabc_nabc.specs.declared.stage.NabcRole.TheVariants.{Silent, Ends, Keep, LeaveOut}
use Rattle.gabc_nabc.specs.declared.stage.NabcFacts.{NabcFacts}
use Rattle.gabc_nabc.specs.declared.state.DescriptorState.{DescriptorState}

-- a stage that has ended gives nothing
pub ended-emits_nothing : (st : NabcStage) → st.ended ≡ true → EmitsNothing (events_left st)
ended-emits_nothing st e [] = rw e refl
ended-emits_nothing st e (x ∷ xs) = grind (arith, ended-emits_nothing st e xs)

-- what a character gives has no end, unless it ends the snippet
no_end : (r : NabcRole) (e : NabcFacts) (w : ℕ) (x : Char) → (r ≡ Ends → ⊥) → list_any is_ended (event_list (events_in r e w x)) ≡ false
no_end r e w x n = grind arith

-- after an end that a push gives, the stage is over
pub push_stops : (st next : NabcStage) (x : Char) (old new : BoundedList NoteEvent) → next ≡ stage_after st x.c → new ≡ extended_by old (stage_events_at st x)
    → StopsAtEnd is_ended (events_left next) old new
push_stops st next x old new n p = running st.ended refl
  where
    none : (r : NabcRole) → role_at st x.c ≡ r → st.ended ≡ false → (r ≡ Ends → ⊥) → list_any is_ended (stage_events_at st x) ≡ false
    none r f e h =
        let same_events : stage_events_at st x ≡ event_list (events_in r (facts_at st x.c) st.whole x) = rw (e, f) refl in
        ap (list_any is_ended) same_events ∙ no_end r (facts_at st x.c) st.whole x h

    at_role : (r : NabcRole) → role_at st x.c ≡ r → st.ended ≡ false → StopsAtEnd is_ended (events_left next) old new
    at_role Ends f e =
        let same_events : stage_events_at st x ≡ event_list (events_in Ends (facts_at st x.c) st.whole x) = rw (e, f) refl in
        let over : next.ended ≡ true = ap (λ (s : NabcStage). s.ended) n ∙ rw (e, f) refl in
        stops-last is_ended (events_left next) old new (option_to_list (cond (facts_at st x.c).whole None (Some (finding_event x.place E6)))) (Ended (end_by_mark x.c) st.whole)
        (p ∙ ap (extended_by old) same_events) (first (facts_at st x.c).whole) (ended-emits_nothing next over)
      where
        first : (b : Bool) → list_any is_ended (option_to_list (cond b None (Some (finding_event x.place E6)))) ≡ false
        first b = grind arith
    at_role Silent f e = stops-endless is_ended (events_left next) old new (stage_events_at st x) p (none Silent f e (λ h. cc))
    at_role Keep f e = stops-endless is_ended (events_left next) old new (stage_events_at st x) p (none Keep f e (λ h. cc))
    at_role LeaveOut f e = stops-endless is_ended (events_left next) old new (stage_events_at st x) p (none LeaveOut f e (λ h. cc))

    running : (b : Bool) → st.ended ≡ b → StopsAtEnd is_ended (events_left next) old new
    running true e = stops-endless is_ended (events_left next) old new (stage_events_at st x) p (rw e refl)
    running false e = at_role (role_at st x.c) refl e

-- a character that ends a stage changes nothing else of it
pub ended_as_before : (st next : NabcStage) (c : ℕ) → next ≡ stage_after st c → next.ended ≡ true → next ≡ record st { ended = true }
ended_as_before st next c n h = running st.ended refl
  where
    runs_on : (r : NabcRole) (e : NabcFacts) (o : Option DescriptorState) → (r ≡ Ends → ⊥) → (stage_moved_on st r e o c).ended ≡ st.ended
    runs_on r e o k = grind arith

    moved : st.ended ≡ false → next ≡ stage_moved_on st (role_at st c) (facts_at st c) (next_at st c) c
    moved e = n ∙ rw e refl

    goes_on : st.ended ≡ false → (role_at st c ≡ Ends → ⊥) → ⊥
    goes_on e k =
        let f = ap (λ (s : NabcStage). s.ended) (moved e) ∙ runs_on (role_at st c) (facts_at st c) (next_at st c) k in
        cc

    at_role : (r : NabcRole) → role_at st c ≡ r → st.ended ≡ false → next ≡ record st { ended = true }
    at_role Ends f e = moved e ∙ ap (λ (r : NabcRole). stage_moved_on st r (facts_at st c) (next_at st c) c) f
    at_role _ f e = absurd (goes_on e (λ h. cc))

    running : (b : Bool) → st.ended ≡ b → next ≡ record st { ended = true }
    running true e = n ∙ (rw e refl ∙ ap (λ (b : Bool). record st { ended = b }) e)
    running false e = at_role (role_at st c) refl e

-- and so is it after the end
pub finish_stops : (st next : NabcStage) (old new : BoundedList NoteEvent) → next.ended ≡ true → new ≡ extended_by old (events_of_cut st)
    → StopsAtEnd is_ended (events_left next) old new
finish_stops st next old new n p = go st.ended refl
  where
    go : (b : Bool) → st.ended ≡ b → StopsAtEnd is_ended (events_left next) old new
    go true e = stops-endless is_ended (events_left next) old new (events_of_cut st) p (rw e refl)
    go false e =
        let same_events : events_of_cut st ≡ [] ++ Ended (Cut (record { line = 0; column = 0 })) st.kept ∷ [] = rw e refl in
        stops-last is_ended (events_left next) old new [] (Ended (Cut (record { line = 0; column = 0 })) st.kept) (p ∙ ap (extended_by old) same_events) refl (ended-emits_nothing next n)
