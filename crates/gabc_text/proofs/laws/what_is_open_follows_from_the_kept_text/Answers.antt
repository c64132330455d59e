use Rattle.gabc_text.proofs.resuming.StagesKeep.{opener_open, comment_open, comment_alone}
use Rattle.gabc_text.proofs.laws.what_is_open_follows_from_the_kept_text.Goals as goal

pub returns : goal.returns
returns c = record {
  opener = opener_open;
  comment = comment_open;
  apart = comment_alone;
}
