use Rattle.gabc_text.proofs.resuming.KeptTextIsSaidInFull.{said_in_full}
use Rattle.gabc_text.proofs.laws.a_kept_text_is_said_in_full.Goals as goal

pub returns : goal.returns
returns c = said_in_full
