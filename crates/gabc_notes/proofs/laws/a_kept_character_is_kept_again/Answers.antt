use Rattle.gabc_notes.proofs.resuming.KeptTextGivesStage.{kept_again}
use Rattle.gabc_notes.proofs.laws.a_kept_character_is_kept_again.Goals as goal

pub returns : goal.returns
returns c = λ split macros s k more d h. kept_again split macros s k more d h
