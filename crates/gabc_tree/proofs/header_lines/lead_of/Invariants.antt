use Rattle.std.proofs.Common.{◌≡◌, drop}
use Rattle.gabc_headers.specs.Lines.{trim_start, is_blank_or_lf}
use Rattle.gabc_tree.proofs.header_lines.lead_of.Given as goal

abbrev pub invariant-loop-at : goal.invariant-loop-at
invariant-loop-at l = trim_start is_blank_or_lf l.part ≡ trim_start is_blank_or_lf (drop l.at l.part)
