-- The stage emits what the definition says.
use Rattle.std.proofs.Common.{◌≡◌, ℕ, List, [], ◌∷◌, ◌++◌, Bool, false, cond, sym, ap, ◌∙◌, Option, None, arith}
use Rattle.gabc_places.specs.declared.place.Char.{Char}
use Rattle.gabc_patterns.proofs.StatesAfterTexts.{run-append}
use Rattle.gabc_patterns.proofs.AutomatonsByTests.{reading, reading_of}
use Rattle.gabc_notes.specs.Table.{gabc}
use Rattle.gabc_notes.specs.machine.CharClass.{class_of_character}
use Rattle.gabc_notes.specs.witness.StageEvents.{is_attribute_kind, kind_at, macro_digit, char_facts, role_in, before_in, events_in, event_list, raw_with, events_following, events_after}
use Rattle.gabc_notes.specs.machine.ItemMachine.{next_state, raw_state, attribute_state, digit_of_prefix, facts_by_states, prefix_with, prefix_after, stage_after}
use Rattle.gabc_notes.specs.witness.ItemMachine.{example, example_prefix, events_left}
use Rattle.gabc_notes.specs.declared.macro_prefix.MacroPrefix.{MacroPrefix}
use Rattle.gabc_notes.specs.declared.stage.NoteEvent.{NoteEvent}
use Rattle.gabc_notes.specs.declared.stage.NoteStage.{NoteStage}
use Rattle.gabc_notes.specs.declared.stage.CharRole.{CharRole}
use Rattle.gabc_notes.specs.declared.stage.CharRole.TheVariants.{Keep}
use Rattle.gabc_notes.specs.declared.stage.CharFacts.{CharFacts}
use Rattle.gabc_notes.specs.declared.state.ItemState.{ItemState}
use Rattle.gabc_notes.proofs.machine.MachineReadsTable.{machine, snippets_read}
use Rattle.gabc_notes.proofs.machine.EventsDependOnState.{raw_at, facts_at, NameAlike, events_alike}
use Rattle.gabc_places.specs.BoundedList.{BoundedList, extended_by}
use Rattle.gabc_places.specs.StageLaw.{Pushes, silence}
use Rattle.gabc_notes.specs.witness.StageEvents.{CharEvents}

-- whether a state lies inside raw
pub raw_is : (s : ItemState) → raw_at (reading gabc machine s) ≡ raw_state s
raw_is s = grind arith

-- whether a state ends with an attribute
pub attribute_is : (s : ItemState) → is_attribute_kind (kind_at (reading gabc machine s)) ≡ attribute_state s
attribute_is s = grind arith

-- the digit of a macro's name is emitted
pub digit_is : (n : MacroPrefix) → macro_digit (example_prefix n) ≡ digit_of_prefix n
digit_is n = grind arith

-- what is known by the readings is what is known by the states
by_states : (s : ItemState) (o : Option ItemState) (n : MacroPrefix) → facts_at (reading gabc machine s) (reading_of gabc machine o) (digit_of_prefix n) ≡ facts_by_states s o n
by_states s o n = grind arith

-- so the machine looks as the definition does
pub looked_is : (s : ItemState) (n : MacroPrefix) (c : ℕ) → char_facts (example s) (example_prefix n) c ≡ facts_by_states s (next_state s (class_of_character c)) n
looked_is s n c = grind (arith, snippets_read, by_states)

-- a name with a character more
pub name_alike : (n : MacroPrefix) (c : ℕ) → NameAlike (example_prefix n ++ c ∷ []) (example_prefix (prefix_with n c))
name_alike n c w = grind arith

named_alike : (e : CharFacts) (n : MacroPrefix) (c : ℕ) → NameAlike (raw_with e (example_prefix n) c) (example_prefix (prefix_after e n c))
named_alike e n c = grind arith

-- what is not viable is not kept
pub not_kept : (split comment : Bool) (s : ItemState) (n : MacroPrefix) (c : ℕ) → role_in split comment (facts_by_states s None n) c ≡ Keep → ⊥
not_kept split comment s n c e = grind arith

-- what follows a character is what the stage emits from there on
follow_rest : (st : NoteStage) (x : Char) (xs : List Char) (o : Option ItemState) (e : CharFacts) (r : CharRole) → st.ended ≡ false
    → next_state st.state (class_of_character x.c) ≡ o → (o ≡ None → r ≡ Keep → ⊥)
    → events_following r (silence xs) (events_after st.split st.macros (example st.state ++ x.c ∷ []) (raw_with e (example_prefix st.name) x.c) (before_in r st.before e x) xs)
    (events_after st.split st.macros (example st.state) (example_prefix st.name) (before_in r st.before e x) xs)
    ≡ events_left (stage_after st r e o x) xs
follow_rest st x xs o e r f g h = grind (arith, run-append, snippets_read, events_alike, named_alike)

-- what a push gives, and then what the stage still gives, is what it gave before
pub push_law : (st : NoteStage) (x : Char) (xs : List Char) (o : Option ItemState) (e : CharFacts) (r : CharRole) → st.ended ≡ false
    → o ≡ next_state st.state (class_of_character x.c) → e ≡ facts_by_states st.state o st.name → r ≡ role_in st.split st.before.comment e x.c
    → events_left st (x ∷ xs) ≡ event_list (events_in r st.macros st.before e x) ∷ events_left (stage_after st r e o x) xs
push_law st x xs o e r f g h k =
    let same : char_facts (example st.state) (example_prefix st.name) x.c ≡ e = looked_is st.state st.name x.c ∙ (ap (λ (p : Option ItemState). facts_by_states st.state p st.name) (sym g) ∙ sym h) in
    let none : o ≡ None → r ≡ Keep → ⊥ = λ a b. not_kept st.split st.before.comment st.state st.name x.c
    (ap (λ (v : CharFacts). role_in st.split st.before.comment v x.c) (ap (λ (p : Option ItemState). facts_by_states st.state p st.name) (sym a) ∙ sym h) ∙ (sym k ∙ b)) in
    let kept : CharFacts → List (List NoteEvent) = λ v. events_after st.split st.macros (example st.state ++ x.c ∷ []) (raw_with v (example_prefix st.name) x.c) (before_in (role_in st.split st.before.comment v x.c) st.before v x) xs in
    let left : CharFacts → List (List NoteEvent) = λ v. events_after st.split st.macros (example st.state) (example_prefix st.name) (before_in (role_in st.split st.before.comment v x.c) st.before v x) xs in
    let all : CharFacts → List (List NoteEvent) = λ v. event_list (events_in (role_in st.split st.before.comment v x.c) st.macros st.before v x) ∷ events_following (role_in st.split st.before.comment v x.c) (silence xs) (kept v) (left v) in
    let one : CharRole → List (List NoteEvent) = λ q. event_list (events_in q st.macros st.before e x)
    ∷ events_following q (silence xs) (events_after st.split st.macros (example st.state ++ x.c ∷ []) (raw_with e (example_prefix st.name) x.c) (before_in q st.before e x) xs)
    (events_after st.split st.macros (example st.state) (example_prefix st.name) (before_in q st.before e x) xs) in
    let outer : Bool → List (List NoteEvent) = λ b. cond b (silence (x ∷ xs)) (events_after st.split st.macros (example st.state) (example_prefix st.name) st.before (x ∷ xs)) in
    ap outer f
    ∙ (ap all same ∙ (ap one (sym k) ∙ ap (λ (l : List (List NoteEvent)). event_list (events_in r st.macros st.before e x) ∷ l) (follow_rest st x xs o e r f (sym g) none)))

-- so a push is as the law of stages says
pub push_emits : (st next : NoteStage) (x : Char) (o : Option ItemState) (e : CharFacts) (r : CharRole) (g : CharEvents) (old new : BoundedList NoteEvent) → st.ended ≡ false
    → o ≡ next_state st.state (class_of_character x.c) → e ≡ facts_by_states st.state o st.name → r ≡ role_in st.split st.before.comment e x.c
    → g ≡ events_in r st.macros st.before e x → next ≡ stage_after st r e o x → new ≡ extended_by old (event_list g)
    → Pushes (events_left st) (events_left next) x 3 old new
push_emits st next x o e r g old new f h k l m n p = grind (arith, push_law)
