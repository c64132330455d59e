-- After an end that a stage emits, it emits nothing.
use Rattle.std.proofs.Common.{◌≡◌, List, [], ◌∷◌, ◌++◌, Bool, true, false, cond, ◌||◌, ℕ, refl, sym, ap, ◌∙◌, Option, Some, None, append_assoc, option_to_list, arith}
use Rattle.std.specs.List.{list_any}
use Rattle.std.proofs.lemmas.List.Folds.{list_any-append}
use Rattle.gabc_places.specs.declared.code.Code.{Code}
use Rattle.gabc_places.specs.declared.code.Code.TheVariants.{E6, W10}
use Rattle.gabc_places.specs.declared.place.Char.{Char}
use Rattle.gabc_places.specs.declared.place.Place.{Place}
use Rattle.gabc_places.specs.BoundedList.{BoundedList, extended_by}
use Rattle.gabc_places.specs.StageLaw.{EmitsNothing, StopsAtEnd}
use Rattle.gabc_places.proofs.PushesAreOne.{joined_silence}
use Rattle.gabc_notes.specs.Ends.{is_ended}
use Rattle.gabc_notes.specs.machine.ItemMachine.{stage_after}
use Rattle.gabc_notes.specs.machine.StageAfter.{next_of, facts_of, role_of, stage_after_one}
use Rattle.gabc_notes.specs.witness.ItemMachine.{events_left}
use Rattle.gabc_notes.specs.Events.{finding_event, end_by_mark}
use Rattle.gabc_notes.specs.witness.StageEvents.{events_in, event_list}
use Rattle.gabc_notes.specs.declared.stage.Before.{Before}
use Rattle.gabc_notes.specs.witness.StageEvents.{CharEvents}
use Rattle.gabc_notes.specs.declared.stage.NoteEvent.{NoteEvent}
use Rattle.gabc_notes.specs.declared.stage.NoteEvent.TheVariants.{Ended}
use Rattle.gabc_notes.specs.declared.stage.NoteStage.{NoteStage}
use Rattle.gabc_notes.specs.declared.stage.CharRole.{CharRole}
use Rattle.gabc_notes.specs.declared.stage.CharRole.TheVariants.{Ends, Keep}
use Rattle.gabc_notes.specs.declared.stage.CharFacts.{CharFacts}
use Rattle.gabc_notes.specs.declared.state.ItemState.{ItemState}
use Rattle.gabc_places.proofs.NothingAfterAnEnd.{stops-endless, stops-last}

-- a stage that has ended gives nothing
pub ended-emits_nothing : (st : NoteStage) → st.ended ≡ true → EmitsNothing (events_left st)
ended-emits_nothing st e = λ xs. rw e (joined_silence xs)

found_is : (b : Bool) (place : Place) (code : Code) → list_any is_ended (option_to_list (cond b (Some (finding_event place code)) None)) ≡ false
found_is b place code = grind arith

none_found : (b : Bool) (place : Place) (code : Code) → list_any is_ended (option_to_list (cond b None (Some (finding_event place code)))) ≡ false
none_found b place code = grind arith

-- a character that is kept comes with no end
warned : (macros : ℕ) (b : Before) (e : CharFacts) (x : Char) → list_any is_ended (event_list (events_in Keep macros b e x)) ≡ false
warned macros b e x = grind arith

-- after an end that a push gives, the stage is over
pub push_stops : (st next : NoteStage) (x : Char) (o : Option ItemState) (e : CharFacts) (r : CharRole) (g : CharEvents) (old new : BoundedList NoteEvent)
    → g ≡ events_in r st.macros st.before e x → next ≡ stage_after st r e o x → new ≡ extended_by old (event_list g)
    → StopsAtEnd is_ended (events_left next) old new
push_stops st next x o e Ends g old new m n p =
    let first : List NoteEvent = option_to_list (cond e.whole None (Some (finding_event x.place E6))) in
    let second : List NoteEvent = option_to_list (cond st.before.fused (Some (finding_event x.place W10)) None) in
    let last : NoteEvent = Ended (end_by_mark x.c) st.before.whole in
    let plain : list_any is_ended (first ++ second) ≡ false =
    list_any-append is_ended first second ∙ (ap (λ (b : Bool). b || list_any is_ended second) (none_found e.whole x.place E6) ∙ found_is st.before.fused x.place W10) in
    let all : event_list g ≡ (first ++ second) ++ last ∷ [] = ap event_list m ∙ sym (append_assoc first second (last ∷ [])) in
    stops-last is_ended (events_left next) old new (first ++ second) last (p ∙ ap (extended_by old) all) plain (ended-emits_nothing next (ap (λ (s : NoteStage). s.ended) n))
push_stops st next x o e Keep g old new m n p =
    let plain : list_any is_ended (event_list g) ≡ false = ap (λ (y : CharEvents). list_any is_ended (event_list y)) m ∙ warned st.macros st.before e x in
    stops-endless is_ended (events_left next) old new (event_list g) p plain
push_stops st next x o e _ g old new m n p = stops-endless is_ended (events_left next) old new (event_list g) p (ap (λ (y : CharEvents). list_any is_ended (event_list y)) m)

-- a character that ends a stage changes nothing else of it
pub ended_as_before : (st next : NoteStage) (x : Char) → next ≡ stage_after_one st x → next.ended ≡ true → next ≡ record st { ended = true }
ended_as_before st next x n h = running st.ended refl
  where
    runs_on : (r : CharRole) (e : CharFacts) (o : Option ItemState) → (r ≡ Ends → ⊥) → (stage_after st r e o x).ended ≡ st.ended
    runs_on r e o k = grind arith

    moved : st.ended ≡ false → next ≡ stage_after st (role_of st x.c) (facts_of st x.c) (next_of st x.c) x
    moved e = n ∙ rw e refl

    goes_on : st.ended ≡ false → (role_of st x.c ≡ Ends → ⊥) → ⊥
    goes_on e k =
        let f = ap (λ (s : NoteStage). s.ended) (moved e) ∙ runs_on (role_of st x.c) (facts_of st x.c) (next_of st x.c) k in
        cc

    at_role : (r : CharRole) → role_of st x.c ≡ r → st.ended ≡ false → next ≡ record st { ended = true }
    at_role Ends f e = moved e ∙ ap (λ (r : CharRole). stage_after st r (facts_of st x.c) (next_of st x.c) x) f
    at_role _ f e = absurd (goes_on e (λ k. cc))

    running : (b : Bool) → st.ended ≡ b → next ≡ record st { ended = true }
    running true e = n ∙ (rw e refl ∙ ap (λ (b : Bool). record st { ended = b }) e)
    running false e = at_role (role_of st x.c) refl e
