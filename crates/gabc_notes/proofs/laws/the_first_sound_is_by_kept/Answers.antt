use Rattle.gabc_notes.proofs.by_kept.NotesSound.{sound_is}
use Rattle.gabc_notes.proofs.laws.the_first_sound_is_by_kept.Goals as goal

pub returns : goal.returns
returns c = sound_is
