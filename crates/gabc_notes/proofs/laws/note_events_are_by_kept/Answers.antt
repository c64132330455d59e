use Rattle.gabc_notes.proofs.by_kept.NotesFound.{notes_are}
use Rattle.gabc_notes.proofs.laws.note_events_are_by_kept.Goals as goal

pub returns : goal.returns
returns c = notes_are
