use Rattle.std.proofs.Common.{◌-◌, ◌++◌, length}
use Rattle.gabc_tree.specs.HeaderLines.{header_line_nodes}
use Rattle.gabc_tree.proofs.HeaderLinesByRow.{Lined}
use Rattle.gabc_tree.proofs.header_lines.header_lines.Given as goal

abbrev pub invariant-loop-at : goal.invariant-loop-at
invariant-loop-at l = Lined l.text (l.initial.out.items ++ header_line_nodes l.text l.fn.findings) l.out.items l.header l.ahead l.line l.at

abbrev pub decreases-loop-at : goal.decreases-loop-at
decreases-loop-at l = length l.text - l.at
