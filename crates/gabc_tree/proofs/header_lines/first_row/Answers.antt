use Rattle.std.proofs.Common.{arith}
use Rattle.gabc_tree.proofs.LinesByBytes.{at_drop, row_all, row_whole}
use Rattle.gabc_tree.proofs.header_lines.first_row.Goals as goal

pub returns-then-text-at-eq10-clause-row : goal.returns-then-text-at-eq10-clause-row
returns-then-text-at-eq10-clause-row c = row_all c.args.text.now c.loop-at.at c.loop-at.invariant (grind (arith, at_drop))

pub returns-clause-row : goal.returns-clause-row
returns-clause-row c = row_whole c.args.text.now c.loop-at.at c.loop-at.invariant c.loop-at-test.false
