use Rattle.gabc_notes.proofs.by_kept.NotesFates.{end_is, opens_is, kept_is}
use Rattle.gabc_notes.proofs.laws.fates_in_notes.Goals as goal

pub returns : goal.returns
returns c = record { ends = end_is; opens = opens_is; kept = kept_is }
