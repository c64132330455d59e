-- The state of a stage after a character, and after a text.
use Rattle.std.specs.Prelude.{◌≡◌, ℕ, List, [], ◌∷◌, Bool, false, Option, if◌then◌else◌}
use Rattle.gabc_places.specs.declared.place.Char.{Char}
use Rattle.gabc_notes.specs.witness.StageEvents.{role_in, events_in, event_list}
use Rattle.gabc_notes.specs.machine.CharClass.{class_of_character}
use Rattle.gabc_notes.specs.machine.ItemMachine.{next_state, facts_by_states, stage_after}
use Rattle.gabc_notes.specs.machine.StageEvents.{nothing_before}
use Rattle.gabc_notes.specs.declared.macro_prefix.MacroPrefix.TheVariants.{Closed}
use Rattle.gabc_notes.specs.declared.stage.CharFacts.{CharFacts}
use Rattle.gabc_notes.specs.declared.stage.CharRole.{CharRole}
use Rattle.gabc_notes.specs.declared.stage.CharRole.TheVariants.{Keep}
use Rattle.gabc_notes.specs.declared.stage.NoteEvent.{NoteEvent}
use Rattle.gabc_notes.specs.declared.stage.NoteStage.{NoteStage}
use Rattle.gabc_notes.specs.declared.state.ItemState.{ItemState}
use Rattle.gabc_notes.specs.declared.state.ItemState.TheVariants.{Start}

abbrev pub next_of : NoteStage → ℕ → Option ItemState
next_of s c = next_state s.state (class_of_character c)

abbrev pub facts_of : NoteStage → ℕ → CharFacts
facts_of s c = facts_by_states s.state (next_of s c) s.name

abbrev pub role_of : NoteStage → ℕ → CharRole
role_of s c = role_in s.split s.before.comment (facts_of s c) c

-- the stage after a character, and its events
abbrev pub stage_after_one : NoteStage → Char → NoteStage
stage_after_one s x = if s.ended then s else stage_after s (role_of s x.c) (facts_of s x.c) (next_of s x.c) x

abbrev pub events_of_push : NoteStage → Char → List NoteEvent
events_of_push s x = if s.ended then [] else event_list (events_in (role_of s x.c) s.macros s.before (facts_of s x.c) x)

-- ---- places and comments aside

abbrev pub at_nowhere : ℕ → Char
at_nowhere c = record { c = c; place = record { line = 0; column = 0 } }

-- the same stage with no place and no comment
abbrev pub aside : NoteStage → NoteStage
aside s = record s { before = record s.before { place = record { line = 0; column = 0 }; comment = false } }

abbrev pub fresh_stage : Bool → ℕ → NoteStage
fresh_stage split macros = record { split = split; macros = macros; state = Start; name = Closed; before = nothing_before; ended = false }

-- the stage after a text
abbrev pub stage_past : NoteStage → List ℕ → NoteStage
stage_past s [] = s
stage_past s (c ∷ t) = stage_past (stage_after_one s (at_nowhere c)) t

-- all of the text is kept
abbrev pub AreKept : NoteStage → List ℕ → Type 0
AreKept s [] = Unit {0}
AreKept s (c ∷ t) = (role_of s c ≡ Keep) × AreKept (stage_after_one s (at_nowhere c)) t
