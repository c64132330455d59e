use Rattle.std.proofs.Common.{◌≡◌, ◌≤◌, drop, length}
use Rattle.gabc_headers.specs.Lines.{trim_end}
use Rattle.gabc_tree.specs.machine.HeaderLines.{is_last}
use Rattle.gabc_tree.proofs.LinesByBytes.{longest}
use Rattle.gabc_tree.proofs.header_lines.kept_part.Given as goal

abbrev pub invariant-loop-at : goal.invariant-loop-at
invariant-loop-at l = record {
  within : l.len ≤ l.at;
  kept : length (trim_end (is_last l.of_value) l.part) ≡ longest l.at l.len (length (trim_end (is_last l.of_value) (drop l.at l.part)));
}
