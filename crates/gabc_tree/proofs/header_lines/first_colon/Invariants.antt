use Rattle.std.proofs.Common.{◌≡◌, drop}
use Rattle.gabc_tree.specs.machine.HeaderLines.{first_colon}
use Rattle.gabc_tree.proofs.LinesByBytes.{moved}
use Rattle.gabc_tree.proofs.header_lines.first_colon.Given as goal

abbrev pub invariant-loop-at : goal.invariant-loop-at
invariant-loop-at l = first_colon l.row ≡ moved l.at (first_colon (drop l.at l.row))
