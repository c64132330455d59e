use Rattle.std.proofs.Common.{arith, take-append-drop}
use Rattle.gabc_score.proofs.regular_syllables.PlainBytes.{plain_rest}
use Rattle.gabc_score.proofs.run.find.Goals as goal

pub plain_after-requires : goal.plain_after-requires
plain_after-requires c = (let left = plain_rest c.args.text.now c.args.plain c.in-Some.found.len c.requires in rw (c.split_at.ensures.back, c.saturating_sub.ensures) left)

pub returns-clause-found : goal.returns-clause-found
returns-clause-found c = grind (arith, take-append-drop)
