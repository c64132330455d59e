use Rattle.gabc_write.proofs.dump_is_short.LinesWithoutNotes.{shorter_without_notes}
use Rattle.gabc_write.proofs.dump_laws.a_dump_without_notes_is_shorter.Goals as goal

pub returns : goal.returns
returns c = λ number outset s l none. shorter_without_notes number outset s l none
