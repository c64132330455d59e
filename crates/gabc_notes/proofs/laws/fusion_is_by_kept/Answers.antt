use Rattle.gabc_notes.proofs.by_kept.NotesFound.{fused_alike}
use Rattle.gabc_notes.proofs.laws.fusion_is_by_kept.Goals as goal

pub returns : goal.returns
returns c = fused_alike
