-- What the calls of a stage do to the text that it keeps.
use Rattle.std.proofs.Common.{arith, ◌≡◌, List, [], ◌∷◌, false, Option, length, drop, sym, ap, ◌∙◌, subst}
use Rattle.std.proofs.Math.Seq.{drop-append_seam}
use Rattle.gabc_places.specs.BoundedList.{BoundedList}
use Rattle.gabc_places.specs.StageLaw.{Pushes}
use Rattle.gabc_places.specs.declared.place.Char.{Char}
use Rattle.gabc_notes.specs.witness.ItemMachine.{events_left}
use Rattle.gabc_notes.specs.witness.Keeps.{KeepsOn, Steps}
use Rattle.gabc_notes.specs.witness.StageEvents.{role_in}
use Rattle.gabc_notes.specs.machine.ItemMachine.{IsShortStep, facts_by_states, stage_after, stage_kept}
use Rattle.gabc_notes.specs.machine.StageAfter.{next_of, stage_after_one, events_of_push}
use Rattle.gabc_notes.specs.declared.stage.CharFacts.{CharFacts}
use Rattle.gabc_notes.specs.declared.stage.CharRole.{CharRole}
use Rattle.gabc_notes.specs.declared.stage.NoteEvent.{NoteEvent}
use Rattle.gabc_notes.specs.declared.stage.NoteStage.{NoteStage}
use Rattle.gabc_notes.specs.declared.state.ItemState.{ItemState}
use Rattle.gabc_notes.proofs.resuming.KeptTextGivesStage.{emits_on}
use Rattle.gabc_notes.proofs.resuming.StagesKeep.{push_keeps}

-- ---- the stage after a character, by each way

-- the general way
pub read_state : (s next : NoteStage) (x : Char) (o : Option ItemState) (facts : CharFacts) (role : CharRole) → s.ended ≡ false → o ≡ next_of s x.c → facts ≡ facts_by_states s.state o s.name
    → role ≡ role_in s.split s.before.comment facts x.c → next ≡ stage_after s role facts o x → next ≡ stage_after_one s x
read_state s next x o facts role on eo ef er e = cc

-- the short way to a state
pub short_state : (s : NoteStage) (x : Char) (z : ItemState) → s.ended ≡ false → s.before.comment ≡ false → IsShortStep s.state x.c z → stage_kept s z x ≡ stage_after_one s x
short_state s x z on no_comment step = grind arith

-- ---- what is kept

-- by what the stage emits with the character
pub keeps_by : (s next : NoteStage) (x : Char) (events : List NoteEvent) → s.ended ≡ false → next ≡ stage_after_one s x → events_left s (x ∷ []) ≡ events ∷ events_left next [] → KeepsOn s x events next
keeps_by s next x events on e law =
    let both : events_of_push s x ∷ events_left (stage_after_one s x) [] ≡ events ∷ events_left next [] = sym (emits_on s x [] on) ∙ law in
    let same : events_of_push s x ≡ events = cc both in
    subst (λ (n : NoteStage). KeepsOn s x events n) (sym e) (subst (λ (o : List NoteEvent). KeepsOn s x o (stage_after_one s x)) same (push_keeps s x))

pub push_keeps_in : (s next : NoteStage) (x : Char) (old new : BoundedList NoteEvent) → s.ended ≡ false → next ≡ stage_after_one s x → Pushes (events_left s) (events_left next) x 3 old new
    → KeepsOn s x (drop (length old.items) new.items) next
push_keeps_in s next x old new on e p =
    subst (λ (events : List NoteEvent). KeepsOn s x events next) (sym (ap (λ (room : BoundedList NoteEvent). drop (length old.items) room.items) p.out ∙ drop-append_seam old.items p.events))
    (keeps_by s next x p.events on e (p.law []))

-- ---- what a push does

-- where the stage goes on or ends with the character
pub push_steps_in : (s next : NoteStage) (x : Char) (old new : BoundedList NoteEvent) → s.ended ≡ false → next ≡ stage_after_one s x → Pushes (events_left s) (events_left next) x 3 old new
    → Steps s x (drop (length old.items) new.items) next
push_steps_in s next x old new on e p = grind (arith, drop-append_seam, push_keeps_in)
