use Rattle.std.proofs.Common.{◌≡◌, ◌+◌, drop}
use Rattle.gabc_tree.specs.HeaderLines.{semicolons}
use Rattle.gabc_tree.proofs.header_lines.semicolons.Given as goal

abbrev pub invariant-loop-at : goal.invariant-loop-at
invariant-loop-at l = semicolons l.row ≡ l.at + semicolons (drop l.at l.row)
