use Rattle.gabc_text.proofs.resuming.StagesKeep.{kept_again, comment_not_kept, end_not_kept}
use Rattle.gabc_text.proofs.laws.a_kept_character_is_kept_again.Goals as goal

pub returns : goal.returns
returns c = record {
  characters = kept_again;
  comments = comment_not_kept;
  ends = end_not_kept;
}
