-- The short way of the stage does what its general way does.
use Rattle.std.proofs.Common.{◌≡◌, ℕ, ◌+◌, ◌-◌, ◌^◌, min, List, [], ◌∷◌, false, refl, Option, Some, None, arith}
use Rattle.std.proofs.Math.Bool.{and-false, and-true}
use Rattle.gabc_places.specs.declared.place.Char.{Char}
use Rattle.gabc_places.specs.BoundedList.{BoundedList, extended_by}
use Rattle.gabc_places.specs.StageLaw.{Pushes}
use Rattle.gabc_notes.specs.machine.CharClass.{class_of_character}
use Rattle.gabc_notes.specs.machine.ItemMachine.{IsShortStep, next_state, facts_by_states, stage_after, stage_kept}
use Rattle.gabc_notes.specs.witness.ItemMachine.{events_left}
use Rattle.gabc_notes.specs.witness.StageEvents.{role_in, warning_in, events_in, event_list}
use Rattle.gabc_notes.specs.declared.stage.Before.{Before}
use Rattle.gabc_notes.specs.declared.stage.CharFacts.{CharFacts}
use Rattle.gabc_notes.specs.declared.macro_prefix.MacroPrefix.TheVariants.{Closed}
use Rattle.gabc_notes.specs.declared.stage.NoteEvent.{NoteEvent}
use Rattle.gabc_notes.specs.declared.stage.NoteEvent.TheVariants.{Kept}
use Rattle.gabc_notes.specs.declared.stage.NoteStage.{NoteStage}
use Rattle.gabc_notes.specs.declared.stage.CharRole.{CharRole}
use Rattle.gabc_notes.specs.declared.stage.CharRole.TheVariants.{Keep}
use Rattle.gabc_notes.specs.declared.state.ItemState.{ItemState}
use Rattle.gabc_notes.proofs.machine.StageEmitsItsEvents.{push_law, push_emits}

-- ---- a character on the short way

-- what is known of the character
abbrev pub short_facts : NoteStage → ItemState → CharFacts
short_facts st z = facts_by_states st.state (Some z) st.name

-- the stage after it
abbrev pub note_made : NoteStage → ItemState → ℕ → Char → NoteStage
note_made st z kept x = record st { state = z; name = Closed; before = record st.before { place = x.place; kept = kept; whole = kept } }

module _ (st : NoteStage) (x : Char) (z : ItemState) (comment : st.before.comment ≡ false) (step : IsShortStep st.state x.c z) where
  note_role : role_in st.split st.before.comment (short_facts st z) x.c ≡ Keep
  note_role = rw (comment, step.outside, step.closes_no_notes, step.ends_no_snippet, step.begins_no_comment, and-false st.split) refl

  pub note_stage : (kept : ℕ) → kept ≡ min (st.before.kept + 1) (2 ^ 64 - 1) → note_made st z kept x ≡ stage_kept st z x
  note_stage kept h = rw (h, comment, step.outside, step.outside_after, step.whole_after, step.is_byte, step.opens_nothing, step.closes_nothing, and-true st.before.fused) refl

  kept_emits : (next : NoteStage) (old new : BoundedList NoteEvent) → st.ended ≡ false → next ≡ stage_kept st z x → new ≡ extended_by old (Kept x ∷ [])
      → Pushes (events_left st) (events_left next) x 3 old new
  kept_emits next old new f n p = grind (arith, push_emits, note_role)

  pub note_emits : (kept : ℕ) (old new : BoundedList NoteEvent) → st.ended ≡ false → kept ≡ min (st.before.kept + 1) (2 ^ 64 - 1) → new ≡ extended_by old (Kept x ∷ [])
      → Pushes (events_left st) (events_left (note_made st z kept x)) x 3 old new
  note_emits kept old new f h p = kept_emits (note_made st z kept x) old new f (note_stage kept h) p

-- ---- a character that is kept with no warning

pub kept_taken : (st next : NoteStage) (x : Char) (o : Option ItemState) (e : CharFacts) (r : CharRole) (w : Option NoteEvent) (xs : List Char) → st.ended ≡ false
    → o ≡ next_state st.state (class_of_character x.c) → e ≡ facts_by_states st.state o st.name → r ≡ role_in st.split st.before.comment e x.c → r ≡ Keep
    → w ≡ warning_in st.macros st.before e x → w ≡ None → next ≡ stage_after st r e o x
    → events_left st (x ∷ xs) ≡ (Kept x ∷ []) ∷ events_left next xs
kept_taken st next x o e r w xs f g h k kept m none n = grind (arith, push_law)

-- ---- a character at which something else is emitted

-- it is not kept, or a warning comes with it
pub emits_otherwise : (r : CharRole) (macros : ℕ) (b : Before) (e : CharFacts) (x : Char) (w : Option NoteEvent) → w ≡ warning_in macros b e x → (r ≡ Keep → w ≡ None → ⊥)
    → event_list (events_in r macros b e x) ≡ Kept x ∷ [] → ⊥
emits_otherwise r macros b e x w m h k = grind arith
