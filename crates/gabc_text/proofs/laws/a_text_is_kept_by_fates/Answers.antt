use Rattle.gabc_text.proofs.by_kept.KeptByFates.{kept_by_fates}
use Rattle.gabc_text.proofs.laws.a_text_is_kept_by_fates.Goals as goal

pub returns : goal.returns
returns c = kept_by_fates
