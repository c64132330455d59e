use Rattle.gabc_text.proofs.by_kept.FatesOfStages.{whole_kept, comment_begins, text_ends, character_kept}
use Rattle.gabc_text.proofs.laws.a_stage_follows_fates.Goals as goal

pub returns : goal.returns
returns c = record { whole = whole_kept; comment = comment_begins; end = text_ends; kept = λ s k c h. character_kept s k h c }
