use Rattle.std.proofs.Common.{arith}
use Rattle.gabc_score.proofs.score_events.FewAndShortAreLent.{few_lent}
use Rattle.gabc_score.proofs.score_events.OutputsOfLentSyllables.{now_emitted}
use Rattle.gabc_score.proofs.emit.give_broken.Goals as goal

pub returns : goal.returns
returns c = grind (arith, now_emitted, few_lent)
