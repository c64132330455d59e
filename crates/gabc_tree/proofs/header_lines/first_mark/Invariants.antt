use Rattle.gabc_tree.proofs.LinesByBytes.{Marks}
use Rattle.gabc_tree.proofs.header_lines.first_mark.Given as goal

abbrev pub invariant-loop-at : goal.invariant-loop-at
invariant-loop-at l = Marks l.row l.least l.at l.found l.bare l.run
