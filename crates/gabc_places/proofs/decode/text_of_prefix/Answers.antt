use Rattle.std.proofs.Common.{arith}
use Rattle.gabc_places.proofs.texts.LinesAreCutAtReturns.{line-read, last-read, line-added, cut-after}
use Rattle.gabc_places.proofs.decode.text_of_prefix.Goals as goal

pub range_from-requires : goal.range_from-requires
range_from-requires c = λ h. (let e = rw c.as_bytes.ensures.value at c.in-Some.ensures in cut-after _ _ c.loop-at.invariant.0 e.0.high e.1)

pub loop-at-smaller : goal.loop-at-smaller
loop-at-smaller c = omega (arith, c.without_line_feed-rest.ensures.no_longer, c.range_from.ensures.len)

pub loop-at-preserved : goal.loop-at-preserved
loop-at-preserved c = grind (arith, line-read, line-added)

pub returns : goal.returns
returns c = grind (arith, last-read)
