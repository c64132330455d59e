-- The reports of a stage beside the text that it has kept.
use Rattle.std.specs.Prelude.{Bool, Option, Some, None, if◌then◌else◌}
use Rattle.gabc_places.specs.declared.place.Place.{Place}
use Rattle.gabc_notes.specs.Events.{in_raw}
use Rattle.gabc_notes.specs.witness.ItemMachine.{example}
use Rattle.gabc_notes.specs.declared.stage.NoteStage.{NoteStage}

-- the place of the open bracket: one is open inside raw alone
abbrev pub opener_of : NoteStage → Option Place
opener_of s = if in_raw (example s.state) then Some s.before.place else None

-- a comment is open
abbrev pub comment_of : NoteStage → Bool
comment_of s = s.before.comment

-- The open bracket is at this place.
abbrev pub opened_at : Place → NoteStage → NoteStage
opened_at at s = record s { before = record s.before { place = if in_raw (example s.state) then at else s.before.place } }

-- The part of a stage that matters: outside raw, no place does.
abbrev pub told : NoteStage → NoteStage
told s = record s { before = record s.before { place = if in_raw (example s.state) then s.before.place else record { line = 0; column = 0 } } }
