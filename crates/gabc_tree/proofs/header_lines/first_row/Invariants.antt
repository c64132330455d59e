use Rattle.std.proofs.Common.{◌≡◌, ◌+◌, drop, length}
use Rattle.gabc_tree.specs.machine.HeaderLines.{row_of}
use Rattle.gabc_tree.proofs.header_lines.first_row.Given as goal

abbrev pub invariant-loop-at : goal.invariant-loop-at
invariant-loop-at l = length (row_of l.text) ≡ l.at + length (row_of (drop l.at l.text))
