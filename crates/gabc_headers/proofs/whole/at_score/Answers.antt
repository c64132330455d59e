use Rattle.std.proofs.Common.{arith}
use Rattle.gabc_headers.proofs.entries.TextsAsBytes.{chars-name}
use Rattle.gabc_headers.proofs.collecting.HeadsWithinLimits.{by_len, found_same}
use Rattle.gabc_headers.proofs.whole.at_score.Goals as goal
use Rattle.gabc_headers.proofs.whole.at_score.Goals.{then-is_none+in_ok-push, else-is_none}

pub returns : goal.returns
returns c = grind (arith, found_same, chars-name, by_len)

pub returns-in-Err : goal.returns-in-Err
returns-in-Err c = grind (arith, by_len)
